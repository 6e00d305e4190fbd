-- No longer front of a text is a name or a number than the one that is taken.
use Rattle.std.proofs.Common.{◌≡◌, ◌∙◌, sym, ap, subst, inl, inr, refl, ℕ, zero, suc, ◌+◌, ◌-◌, ◌==◌, ◌≤◌, ◌⊎◌, Bool, true, false, ◌&&◌, ◌||◌, cond, List, [], ◌∷◌, ◌++◌, take, drop, length, Option, Some, None, arith}
use Rattle.std.specs.Prelude.{nat_lt, is_none, take_while, IfSome}
use Rattle.std.specs.Char.{is_ascii_digit, is_ascii_alphabetic, is_ascii_alphanumeric}
use Rattle.std.specs.List.{list_all, prefix_len}
use Rattle.std.proofs.lemmas.Bool.{eqb-true}
use Rattle.std.proofs.lemmas.Bool.Decides.{nat_tests}
use Rattle.std.proofs.lemmas.List.Folds.{length-prefix_len}
use Rattle.emtp_expr.specs.Longest.{HasOwnPoint, IsNameText, IsNumber, IsPower, IsSign, IsTakenWhole, NumberParts, Power, fraction_size, text_from_point, power_size, text_from_power}
use Rattle.emtp_expr.specs.Words.{digit_count, dotted, exponent_length, fraction_length, letter_count, mantissa_length, name_length, number_length, power_length, sign_length}

-- ---- fronts

left : (a b : Bool) → (a && b) ≡ true → a ≡ true
left true b e = refl
left false b e = e

right : (a b : Bool) → (a && b) ≡ true → b ≡ true
right true b e = e
right false b e = absurd (cc)

none_before : (n : ℕ) → 0 + n ≡ n
none_before n = omega arith

one_before : (m n : ℕ) → 1 + (m + n) ≡ suc m + n
one_before m n = omega arith

more_before : (m n : ℕ) → suc m + n ≡ suc (m + n)
more_before m n = omega arith

less_both : (m n : ℕ) → n - m ≡ suc n - suc m
less_both m n = omega arith

prefix_front : (p : ℕ → Bool) (front rest : List ℕ) → list_all p front ≡ true → prefix_len p (front ++ rest) ≡ length front + prefix_len p rest
prefix_front p [] rest all = sym (none_before (prefix_len p rest))
prefix_front p (byte ∷ front) rest all =
    ap (λ t. cond t (1 + prefix_len p (front ++ rest)) 0) (left (p byte) (list_all p front) all)
    ∙ ap (λ n. 1 + n) (prefix_front p front rest (right (p byte) (list_all p front) all))
    ∙ one_before (length front) (prefix_len p rest)

count_front : (p : ℕ → Bool) (front rest : List ℕ) → list_all p front ≡ true → length (take_while p (front ++ rest)) ≡ length front + length (take_while p rest)
count_front p front rest all = omega (arith, length-prefix_len p (front ++ rest), length-prefix_len p rest, prefix_front p front rest all)

drop_front : (front rest : List ℕ) → drop (length front) (front ++ rest) ≡ rest
drop_front [] rest = refl
drop_front (byte ∷ front) rest = drop_front front rest

drop_more : (front rest : List ℕ) (n : ℕ) → drop (length front + n) (front ++ rest) ≡ drop n rest
drop_more [] rest n = ap (λ k. drop k rest) (none_before n)
drop_more (byte ∷ front) rest n = ap (λ k. drop k (byte ∷ (front ++ rest))) (more_before (length front) n) ∙ drop_more front rest n

take_front : (n : ℕ) (front rest : List ℕ) → length front ≤ n → take n (front ++ rest) ≡ front ++ take (n - length front) rest
take_front n [] rest few = let whole : n ≡ n - 0 = omega arith in ap (λ k. take k rest) whole
take_front zero (byte ∷ front) rest few = absurd (omega (arith, few))
take_front (suc n) (byte ∷ front) rest few =
    ap (λ bytes. byte ∷ bytes) (take_front n front rest (omega (arith, few))) ∙ ap (λ k. byte ∷ (front ++ take k rest)) (less_both (length front) n)

-- ---- names

pub name_longest : (front behind : List ℕ) → IsNameText front → length front ≤ name_length (front ++ behind)
unfolding name_length
name_longest [] behind is = absurd is
name_longest (letter ∷ others) behind is =
    let count = ap (λ bytes. length (take_while is_ascii_alphanumeric bytes)) (take_front 5 others behind is.few) ∙ count_front is_ascii_alphanumeric others (take (5 - length others) behind) is.goes_on in
    let whole : cond (is_ascii_alphabetic letter) (1 + letter_count (take 5 (others ++ behind))) 0 ≡ 1 + letter_count (take 5 (others ++ behind)) = ap (λ b. cond b (1 + letter_count (take 5 (others ++ behind))) 0) is.begins in
    omega (arith, count, whole)

-- ---- bytes that are no digits

by_byte : (byte a b : ℕ) (P : ℕ → Type 0) → P a → P b → ((byte == a) || (byte == b)) ≡ true → P byte
by_byte byte a b P one other is = by_test (byte == a) refl is
  where
    by_test : (t : Bool) → (byte == a) ≡ t → (t || (byte == b)) ≡ true → P byte
    by_test true e h = subst P (sym (eqb-true byte a e)) one
    by_test false e h = subst P (sym (eqb-true byte b h)) other

no_mark : (byte a : ℕ) → is_ascii_digit byte ≡ true → is_ascii_digit a ≡ false → (byte == a) ≡ false
no_mark byte a digit off = by_test (byte == a) refl
  where
    by_test : (t : Bool) → (byte == a) ≡ t → t ≡ false
    by_test true e = absurd (clash (sym (ap is_ascii_digit (eqb-true byte a e) ∙ off) ∙ digit))
      where
        clash : false ≡ true → ⊥
        clash h = cc
    by_test false e = refl

-- ---- the power

digits_first : (digits rest : List ℕ) → 1 ≤ length digits → list_all is_ascii_digit digits ≡ true → sign_length (digits ++ rest) ≡ 0
unfolding sign_length
digits_first [] rest some all = absurd (omega (arith, some))
digits_first (byte ∷ digits) rest some all =
    let digit = left (is_ascii_digit byte) (list_all is_ascii_digit digits) all in
    ap (λ t. cond (t || (byte == 45)) 1 0) (no_mark byte 43 digit refl) ∙ ap (λ t. cond t 1 0) (no_mark byte 45 digit refl)

not_zero : (n : ℕ) → 1 ≤ n → (n == 0) ≡ false
not_zero n some = grind (arith, nat_tests)

some_or : (s c : ℕ) → 1 ≤ c → cond (c == 0) 0 (s + c) ≡ s + c
some_or s c some = ap (λ t. cond t 0 (s + c)) (not_zero c some)

power_from : (text rest : List ℕ) (s : ℕ) (digits : List ℕ) → sign_length text ≡ s → drop s text ≡ digits ++ rest → 1 ≤ length digits → length digits ≤ 3 → list_all is_ascii_digit digits ≡ true → s + length digits ≤ power_length text
unfolding power_length
power_from text rest s digits sign behind some few all =
    let c = digit_count (take 3 (drop (sign_length text) text)) in
    let count : c ≡ length digits + digit_count (take (3 - length digits) rest) =
    ap (λ n. digit_count (take 3 (drop n text))) sign
    ∙ ap (λ bytes. digit_count (take 3 bytes)) behind
    ∙ ap digit_count (take_front 3 digits rest few)
    ∙ count_front is_ascii_digit digits (take (3 - length digits) rest) all in
    let more : 1 ≤ c = omega (arith, count, some) in
    let whole = some_or (sign_length text) c more in
    omega (arith, whole, count, sign)

signed_power : (sign digits rest : List ℕ) → IsSign sign → 1 ≤ length digits → length digits ≤ 3 → list_all is_ascii_digit digits ≡ true → length sign + length digits ≤ power_length (sign ++ (digits ++ rest))
unfolding sign_length
signed_power [] digits rest is some few all = power_from (digits ++ rest) rest 0 digits (digits_first digits rest some all) refl some few all
signed_power (byte ∷ []) digits rest is some few all = power_from (byte ∷ (digits ++ rest)) rest 1 digits (ap (λ t. cond t 1 0) is) refl some few all
signed_power (byte ∷ other ∷ sign) digits rest is some few all = absurd is

power_there : (letter : ℕ) (bytes : List ℕ) (n : ℕ) → ((letter == 69) || (letter == 68)) ≡ true → 1 ≤ n → n ≤ power_length bytes → 1 + n ≤ exponent_length (letter ∷ bytes)
unfolding exponent_length
power_there letter bytes n is some low =
    let here = ap (λ t. cond t (cond (power_length bytes == 0) 0 (1 + power_length bytes)) 0) is in
    let whole = some_or 1 (power_length bytes) (omega (arith, some, low)) in
    omega (arith, here, whole, low)

power_longest : (power : Option Power) (behind : List ℕ) → IfSome power IsPower → power_size power ≤ exponent_length (text_from_power power behind)
power_longest None behind is = omega arith
power_longest (Some p) behind is =
    power_there p.letter (p.sign ++ (p.digits ++ behind)) (length p.sign + length p.digits) is.letter (omega (arith, is.some)) (signed_power p.sign p.digits behind is.sign is.some is.few is.digits)

-- a power begins with no digit and with no point
no_digit : (p : Power) (behind : List ℕ) → IsPower p → digit_count (text_from_power (Some p) behind) ≡ 0
no_digit p behind is =
    length-prefix_len is_ascii_digit (text_from_power (Some p) behind) ∙ by_byte p.letter 69 68 (λ byte. prefix_len is_ascii_digit (byte ∷ (p.sign ++ (p.digits ++ behind))) ≡ 0) refl refl is.letter

no_point : (p : Power) (behind : List ℕ) → IsPower p → fraction_length (text_from_power (Some p) behind) ≡ 0
unfolding fraction_length
no_point p behind is = by_byte p.letter 69 68 (λ byte. cond ((byte == 46) && is_none (dotted (byte ∷ (p.sign ++ (p.digits ++ behind))))) (1 + digit_count (p.sign ++ (p.digits ++ behind))) 0 ≡ 0) refl refl is.letter

-- ---- the number

not_below : (f : ℕ) → 2 ≤ f → nat_lt f 2 ≡ false
not_below f some = grind (arith, nat_tests)

and_false : (t : Bool) (n : ℕ) → cond (t && false) 0 n ≡ n
and_false true n = refl
and_false false n = refl

mantissa_by : (d f : ℕ) → (1 ≤ d) ⊎ (2 ≤ f) → cond ((d == 0) && nat_lt f 2) 0 (d + f) ≡ d + f
mantissa_by d f (inl some) = ap (λ t. cond (t && nat_lt f 2) 0 (d + f)) (not_zero d some)
mantissa_by d f (inr some) = ap (λ t. cond ((d == 0) && t) 0 (d + f)) (not_below f some) ∙ and_false (d == 0) (d + f)

-- a number from the sizes of its digits and its fraction, and what stands behind both
number_from : (text : List ℕ) (d f : ℕ) → digit_count text ≡ d → fraction_length (drop d text) ≡ f → (1 ≤ d) ⊎ (2 ≤ f) → number_length text ≡ d + f + exponent_length (drop (d + f) text)
unfolding number_length mantissa_length
number_from text d f digits fraction some =
    let size : mantissa_length text ≡ d + f =
    ap (λ n. cond ((n == 0) && nat_lt (fraction_length (drop n text)) 2) 0 (n + fraction_length (drop n text))) digits
    ∙ ap (λ n. cond ((d == 0) && nat_lt n 2) 0 (d + n)) fraction
    ∙ mantissa_by d f some in
    ap (λ n. cond (n == 0) 0 (n + exponent_length (drop n text))) size ∙ positive (d + f) (exponent_length (drop (d + f) text)) (sum some)
  where
    positive : (n e : ℕ) → 1 ≤ n → cond (n == 0) 0 (n + e) ≡ n + e
    positive n e low = ap (λ t. cond t 0 (n + e)) (not_zero n low)

    sum : (1 ≤ d) ⊎ (2 ≤ f) → 1 ≤ d + f
    sum (inl h) = omega (arith, h)
    sum (inr h) = omega (arith, h)

-- digits alone, and digits with a power
plain : (whole behind : List ℕ) → list_all is_ascii_digit whole ≡ true → 1 ≤ length whole → length whole ≤ number_length (whole ++ behind)
plain whole behind all some =
    let text = whole ++ behind in
    let d = length whole + digit_count behind in
    let is = number_from text d (fraction_length (drop d text)) (count_front is_ascii_digit whole behind all) refl (inl (omega (arith, some))) in
    omega (arith, is)

with_power : (whole : List ℕ) (p : Power) (behind : List ℕ) → list_all is_ascii_digit whole ≡ true → 1 ≤ length whole → IsPower p → length whole + power_size (Some p) ≤ number_length (whole ++ text_from_power (Some p) behind)
with_power whole p behind all some power =
    let tail = text_from_power (Some p) behind in
    let text = whole ++ tail in
    let digits : digit_count text ≡ length whole = omega (arith, count_front is_ascii_digit whole tail all, no_digit p behind power) in
    let is = number_from text (length whole) 0 digits (ap fraction_length (drop_front whole tail) ∙ no_point p behind power) (inl some) in
    let rest : drop (length whole + 0) text ≡ tail = drop_more whole tail 0 in
    omega (arith, is, ap exponent_length rest, power_longest (Some p) behind power)

-- with a point
fraction_at : (digits tail : List ℕ) → list_all is_ascii_digit digits ≡ true → dotted (46 ∷ (digits ++ tail)) ≡ None → fraction_length (46 ∷ (digits ++ tail)) ≡ 1 + (length digits + digit_count tail)
unfolding fraction_length
fraction_at digits tail all own =
    ap (λ word. cond ((46 == 46) && is_none word) (1 + digit_count (digits ++ tail)) 0) own ∙ ap (λ n. 1 + n) (count_front is_ascii_digit digits tail all)

pointed : (whole digits tail : List ℕ) → list_all is_ascii_digit whole ≡ true → list_all is_ascii_digit digits ≡ true → (1 ≤ length whole) ⊎ (2 ≤ 1 + length digits) → dotted (46 ∷ (digits ++ tail)) ≡ None
    → number_length (whole ++ 46 ∷ (digits ++ tail)) ≡ length whole + (1 + (length digits + digit_count tail)) + exponent_length (drop (digit_count tail) tail)
pointed whole digits tail all all_digits some own =
    let behind = 46 ∷ (digits ++ tail) in
    let text = whole ++ behind in
    let f = 1 + (length digits + digit_count tail) in
    let none : digit_count behind ≡ 0 = refl in
    let count : digit_count text ≡ length whole = omega (arith, count_front is_ascii_digit whole behind all, none) in
    let is = number_from text (length whole) f count (ap fraction_length (drop_front whole behind) ∙ fraction_at digits tail all_digits own) (enough some) in
    let point : f ≡ suc (length digits + digit_count tail) = omega arith in
    let rest : drop (length whole + f) text ≡ drop (digit_count tail) tail = drop_more whole behind f ∙ ap (λ n. drop n behind) point ∙ drop_more digits tail (digit_count tail) in
    is ∙ ap (λ bytes. length whole + f + exponent_length bytes) rest
  where
    enough : (1 ≤ length whole) ⊎ (2 ≤ 1 + length digits) → (1 ≤ length whole) ⊎ (2 ≤ 1 + (length digits + digit_count tail))
    enough (inl h) = inl h
    enough (inr h) = inr (omega (arith, h))

number_by : (whole : List ℕ) (fraction : Option (List ℕ)) (power : Option Power) (behind : List ℕ) → list_all is_ascii_digit whole ≡ true → IfSome fraction (λ digits. list_all is_ascii_digit digits ≡ true)
    → (1 ≤ length whole) ⊎ (2 ≤ fraction_size fraction) → IfSome power IsPower → IfSome fraction (λ digits. dotted (46 ∷ (digits ++ text_from_power power behind)) ≡ None)
    → length whole + fraction_size fraction + power_size power ≤ number_length (whole ++ text_from_point fraction (text_from_power power behind))
number_by whole None None behind all digits (inl some) power own = omega (arith, plain whole behind all some)
number_by whole None None behind all digits (inr some) power own = absurd (omega (arith, some))
number_by whole None (Some p) behind all digits (inl some) power own = omega (arith, with_power whole p behind all some power)
number_by whole None (Some p) behind all digits (inr some) power own = absurd (omega (arith, some))
number_by whole (Some digits) None behind all all_digits some power own = omega (arith, pointed whole digits behind all all_digits some own)
number_by whole (Some digits) (Some p) behind all all_digits some power own =
    let tail = text_from_power (Some p) behind in
    let is = pointed whole digits tail all all_digits some own in
    let none = no_digit p behind power in
    let rest : drop (digit_count tail) tail ≡ tail = ap (λ n. drop n tail) none in
    omega (arith, is, none, ap exponent_length rest, power_longest (Some p) behind power)

pub number_longest : (x : NumberParts) (behind : List ℕ) → IsNumber x → HasOwnPoint x behind → IsTakenWhole x behind
number_longest x behind is own = number_by x.whole x.fraction x.power behind is.whole is.fraction is.some is.power own
