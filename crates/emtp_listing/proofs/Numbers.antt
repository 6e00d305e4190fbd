-- Numbers as the listing writes them: free of marks, and known by their text.
use Rattle.std.proofs.Common.{◌≡◌, ◌≢◌, ◌++◌, ◌∙◌, sym, ap, refl, arith, rules, ◌+◌, ◌*◌, ◌/◌, ◌%◌, ◌^◌, ◌<◌, ◌==◌, true, false, not, cond, List, [], ◌∷◌, ℕ, zero, suc, ℤ, pos, negsuc, unsigned_abs, length, get_or, drop, subst, decimal, sub-one, inl, inr}
use Rattle.std.specs.Prelude.{int_lt}
use Rattle.std.specs.Char.{is_ascii_digit}
use Rattle.std.specs.List.{list_all}
use Rattle.std.proofs.lemmas.Int.{ints}
use Rattle.std.proofs.lemmas.Bool.{cases_eq}
use Rattle.std.proofs.lemmas.Bool.Decides.{nat_tests}
use Rattle.std.proofs.lemmas.List.{append_cancel_left, append_cancel_right}
use Rattle.std.proofs.lemmas.Str.Parse.{IsNumeralModel, numerals_by_fold}
use Rattle.std.proofs.lemmas.Fmt.{digits_decimal, decimal_injective, decimal_nonempty}
use Rattle.std.proofs.Math.Nat.{mod-lt, div-add-mod', div-le_self}
use Rattle.emtp_card.specs.Decimal.{with_digits, number_of}
use Rattle.emtp_fix.specs.Decimal.{fraction, point_fraction, fixed_text}
use Rattle.emtp_fix.specs.held.Decimal.{written}
use Rattle.emtp_fix.proofs.Digits.{fraction-none, fraction-digit, fraction-written, digit-less, point_fraction-none, point_fraction-some, power-above}
use Rattle.emtp_listing.specs.Entry.{count_entry, figure_entry, number_entry, place_entry}
use Rattle.emtp_listing.specs.Law.{IsFree}
use Rattle.emtp_listing.proofs.Cut.{Begins, and_first, and_rest, and_both, free-both, cut}

abbrev pub AreAllDigits : List ℕ → Type 0
AreAllDigits bytes = list_all is_ascii_digit bytes ≡ true

read_by : IsNumeralModel AreAllDigits number_of
read_by = numerals_by_fold _ (search rules) with_digits (search rules)

pub decimal-digits : (n : ℕ) → n < 2 ^ 64 → AreAllDigits (decimal n)
decimal-digits n small = digits_decimal read_by n small

fraction-nothing : (r : ℕ) → fraction zero r ≡ []
unfolding fraction
fraction-nothing r = refl

fraction-first : (places r : ℕ) → r ≢ 0 → fraction (suc places) r ≡ (48 + r / 10 ^ places) ∷ fraction places (r % 10 ^ places)
fraction-first places r some = rw sub-one at (fraction-digit (suc places) r (omega arith) some)

digit-first : (places r : ℕ) → r < 10 ^ suc places → r / 10 ^ places < 10
digit-first places r less = rw sub-one at (digit-less (suc places) r (omega arith) less)

fraction-digits : (places r : ℕ) → r < 10 ^ places → AreAllDigits (fraction places r)
fraction-digits zero r less = subst AreAllDigits (sym (fraction-nothing r)) refl
fraction-digits (suc places) r less = elim (cases_eq r 0) [
  | inl none ↦ subst AreAllDigits (sym (ap (fraction (suc places)) none ∙ fraction-none (suc places))) refl
  | inr some ↦ subst AreAllDigits (sym (fraction-first places r some))
      (and_both _ _ (is_digit (r / 10 ^ places) (digit-first places r less)) (fraction-digits places (r % 10 ^ places) (mod-lt r (power-above places))))
]
  where
    is_digit : (d : ℕ) → d < 10 → is_ascii_digit (48 + d) ≡ true
    is_digit d less = grind (arith, nat_tests)

-- digits have no mark below the digit 0
pub digits-free : (b : ℕ) (xs : List ℕ) → b < 48 → AreAllDigits xs → IsFree b xs
digits-free b [] low are = refl
digits-free b (x ∷ xs) low are = and_both _ _ (here b x low (and_first (is_ascii_digit x) (list_all is_ascii_digit xs) are)) (digits-free b xs low (and_rest (is_ascii_digit x) (list_all is_ascii_digit xs) are))
  where
    here : (b x : ℕ) → b < 48 → is_ascii_digit x ≡ true → not (x == b) ≡ true
    here b x low h = grind (arith, nat_tests)

pub decimal-free : (b n : ℕ) → b < 48 → n < 2 ^ 64 → IsFree b (decimal n)
decimal-free b n low small = digits-free b (decimal n) low (decimal-digits n small)

no_sign : (x : ℕ) → int_lt (pos x) (pos 0) ≡ false
no_sign x = grind (arith, ints)

a_sign : (x : ℕ) → int_lt (negsuc x) (pos 0) ≡ true
a_sign x = grind (arith, ints)

plus : (x places : ℕ) → fixed_text (pos x) places ≡ decimal (x / 10 ^ places) ++ point_fraction places (x % 10 ^ places)
unfolding fixed_text
plus x places = ap (λ t. (cond t (45 ∷ []) [] ++ decimal (x / 10 ^ places)) ++ point_fraction places (x % 10 ^ places)) (no_sign x)

minus : (x places : ℕ) → fixed_text (negsuc x) places ≡ 45 ∷ fixed_text (pos (suc x)) places
unfolding fixed_text
minus x places =
    ap (λ t. (cond t (45 ∷ []) [] ++ decimal (suc x / 10 ^ places)) ++ point_fraction places (suc x % 10 ^ places)) (a_sign x)
    ∙ ap (λ (l : List ℕ). 45 ∷ l) (sym (plus (suc x) places))

less_part : (x d : ℕ) → 0 < d → x < 2 ^ 64 → x / d < 2 ^ 64
less_part x d some small = omega (arith, div-le_self x d)

point-free : (b places r : ℕ) → b < 46 → r < 10 ^ places → IsFree b (point_fraction places r)
point-free b places r low less = elim (cases_eq r 0) [
  | inl none ↦ subst (IsFree b) (sym (point_fraction-none places r none)) refl
  | inr some ↦ subst (IsFree b) (sym (point_fraction-some places r some)) (and_both _ _ (here b low) (digits-free b (fraction places r) (omega arith) (fraction-digits places r less)))
]
  where
    here : (b : ℕ) → b < 46 → not (46 == b) ≡ true
    here b h = grind (arith, nat_tests)

plus-free : (b x places : ℕ) → b < 45 → x < 2 ^ 64 → IsFree b (fixed_text (pos x) places)
plus-free b x places low small =
    subst (IsFree b) (sym (plus x places))
    (free-both b (decimal (x / 10 ^ places)) (point_fraction places (x % 10 ^ places)) (decimal-free b (x / 10 ^ places) (omega arith) (less_part x (10 ^ places) (power-above places) small))
    (point-free b places (x % 10 ^ places) (omega arith) (mod-lt x (power-above places))))

pub fixed-free : (b : ℕ) (x : ℤ) (places : ℕ) → b < 45 → unsigned_abs x < 2 ^ 64 → IsFree b (fixed_text x places)
fixed-free b (pos x) places low small = plus-free b x places low small
fixed-free b (negsuc x) places low small = subst (IsFree b) (sym (minus x places)) (and_both _ _ (here b low) (plus-free b (suc x) places low (omega arith)))
  where
    here : (b : ℕ) → b < 45 → not (45 == b) ≡ true
    here b h = grind (arith, nat_tests)

point-begins : (places r : ℕ) → Begins 46 (point_fraction places r)
point-begins places r = elim (cases_eq r 0) [
  | inl none ↦ subst (Begins 46) (sym (point_fraction-none places r none)) tt
  | inr some ↦ subst (Begins 46) (sym (point_fraction-some places r some)) refl
]

written-nothing : (places : ℕ) → written places [] ≡ 0
unfolding written
written-nothing zero = refl
written-nothing (suc places) = refl

point-read : (places r : ℕ) → r < 10 ^ places → written places (drop 1 (point_fraction places r)) ≡ r
point-read places r less = elim (cases_eq r 0) [
  | inl none ↦ ap (λ (l : List ℕ). written places (drop 1 l)) (point_fraction-none places r none) ∙ written-nothing places ∙ sym none
  | inr some ↦ ap (λ (l : List ℕ). written places (drop 1 l)) (point_fraction-some places r some) ∙ fraction-written places r less
]

plus-same : (x y places : ℕ) → x < 2 ^ 64 → y < 2 ^ 64 → fixed_text (pos x) places ≡ fixed_text (pos y) places → x ≡ y
plus-same x y places small_x small_y e =
    let some = power-above places in
    let qx = less_part x (10 ^ places) some small_x in
    let qy = less_part y (10 ^ places) some small_y in
    let parts = cut 46 (decimal (x / 10 ^ places)) (decimal (y / 10 ^ places)) (point_fraction places (x % 10 ^ places)) (point_fraction places (y % 10 ^ places))
    (decimal-free 46 _ (omega arith) qx) (decimal-free 46 _ (omega arith) qy) (point-begins places _) (point-begins places _) (sym (plus x places) ∙ e ∙ plus y places) in
    let q = decimal_injective (x / 10 ^ places) (y / 10 ^ places) qx qy parts.0 in
    let r = sym (point-read places (x % 10 ^ places) (mod-lt x some)) ∙ ap (λ (l : List ℕ). written places (drop 1 l)) parts.1 ∙ point-read places (y % 10 ^ places) (mod-lt y some) in
    sym (div-add-mod' x (10 ^ places)) ∙ ap (λ (v : ℕ). v * 10 ^ places + x % 10 ^ places) q ∙ ap (λ (v : ℕ). (y / 10 ^ places) * 10 ^ places + v) r ∙ div-add-mod' y (10 ^ places)

-- a number that isn't below 0 begins with a digit
pub first-digit : (x places : ℕ) (s : List ℕ) → x < 2 ^ 64 → is_ascii_digit (get_or (fixed_text (pos x) places ++ s) 0 0) ≡ true
first-digit x places s small =
    let q = less_part x (10 ^ places) (power-above places) small in
    ap (λ (l : List ℕ). is_ascii_digit (get_or (l ++ s) 0 0)) (plus x places)
    ∙ first (decimal (x / 10 ^ places)) (point_fraction places (x % 10 ^ places)) (decimal-digits _ q) (decimal_nonempty _ q)
  where
    first : (ds tail : List ℕ) → AreAllDigits ds → 0 < length ds → is_ascii_digit (get_or ((ds ++ tail) ++ s) 0 0) ≡ true
    first [] tail are some = absurd (omega (arith, some))
    first (d ∷ ds) tail are some = and_first (is_ascii_digit d) (list_all is_ascii_digit ds) are

-- the text of a number below 0 isn't that of another
signs-differ : (x y places : ℕ) → x < 2 ^ 64 → fixed_text (pos x) places ≡ 45 ∷ fixed_text (pos y) places → ⊥
signs-differ x y places small e =
    let q = less_part x (10 ^ places) (power-above places) small in
    first (decimal (x / 10 ^ places)) (point_fraction places (x % 10 ^ places)) (fixed_text (pos y) places) (decimal-digits _ q) (decimal_nonempty _ q) (sym (plus x places) ∙ e)
  where
    first : (ds tail t : List ℕ) → AreAllDigits ds → 0 < length ds → ds ++ tail ≡ 45 ∷ t → ⊥
    first [] tail t are some e = omega arith
    first (d ∷ ds) tail t are some e = no_minus d (and_first (is_ascii_digit d) (list_all is_ascii_digit ds) are) (ap (λ (l : List ℕ). get_or l 0 0) e)
      where
        no_minus : (d : ℕ) → is_ascii_digit d ≡ true → d ≡ 45 → ⊥
        no_minus d h e = grind (arith, nat_tests)

pub fixed-same : (x y : ℤ) (places : ℕ) → unsigned_abs x < 2 ^ 64 → unsigned_abs y < 2 ^ 64 → fixed_text x places ≡ fixed_text y places → x ≡ y
fixed-same (pos x) (pos y) places sx sy e = ap pos (plus-same x y places sx sy e)
fixed-same (pos x) (negsuc y) places sx sy e = absurd (signs-differ x (suc y) places sx (e ∙ minus y places))
fixed-same (negsuc x) (pos y) places sx sy e = absurd (signs-differ y (suc x) places sy (sym e ∙ minus x places))
fixed-same (negsuc x) (negsuc y) places sx sy e =
    let whole = plus-same (suc x) (suc y) places sx sy (ap (λ (l : List ℕ). drop 1 l) (sym (minus x places) ∙ e ∙ minus y places)) in
    ap negsuc (next x y whole)
  where
    next : (x y : ℕ) → suc x ≡ suc y → x ≡ y
    next x y e = omega arith

-- ---- entries

pub figure-free : (b : ℕ) (name : List ℕ) (places : ℕ) (tail : List ℕ) (x : ℤ) → b < 45 → IsFree b name → IsFree b tail → unsigned_abs x < 2 ^ 64 → IsFree b (figure_entry name places tail x)
figure-free b name places tail x low f g small =
    free-both b (name ++ 61 ∷ fixed_text x places) tail (free-both b name (61 ∷ fixed_text x places) f (and_both _ _ (equals b low) (fixed-free b x places low small))) g
  where
    equals : (b : ℕ) → b < 45 → not (61 == b) ≡ true
    equals b h = grind (arith, nat_tests)

pub figure-same : (name : List ℕ) (places : ℕ) (tail : List ℕ) (x y : ℤ) → unsigned_abs x < 2 ^ 64 → unsigned_abs y < 2 ^ 64
    → figure_entry name places tail x ≡ figure_entry name places tail y → x ≡ y
figure-same name places tail x y sx sy e =
    let front = append_cancel_right (name ++ 61 ∷ fixed_text x places) (name ++ 61 ∷ fixed_text y places) tail e in
    fixed-same x y places sx sy (ap (λ (l : List ℕ). drop 1 l) (append_cancel_left name (61 ∷ fixed_text x places) (61 ∷ fixed_text y places) front))

pub number-same : (name : List ℕ) (places : ℕ) (unit : List ℕ) (x y : ℤ) → unsigned_abs x < 2 ^ 64 → unsigned_abs y < 2 ^ 64
    → number_entry name places unit x ≡ number_entry name places unit y → x ≡ y
number-same name places unit x y sx sy e = figure-same name places (32 ∷ unit) x y sx sy e

pub count-free : (b : ℕ) (name : List ℕ) (n : ℕ) → b < 45 → IsFree b name → n < 2 ^ 64 → IsFree b (count_entry name n)
count-free b name n low f small = free-both b name (61 ∷ decimal n) f (and_both _ _ (equals b low) (decimal-free b n (omega arith) small))
  where
    equals : (b : ℕ) → b < 45 → not (61 == b) ≡ true
    equals b h = grind (arith, nat_tests)

pub count-same : (name : List ℕ) (m n : ℕ) → m < 2 ^ 64 → n < 2 ^ 64 → count_entry name m ≡ count_entry name n → m ≡ n
count-same name m n sm sn e = decimal_injective m n sm sn (ap (λ (l : List ℕ). drop 1 l) (append_cancel_left name (61 ∷ decimal m) (61 ∷ decimal n) e))

pub place-same : (name : List ℕ) (m n : ℕ) → m < 2 ^ 63 → n < 2 ^ 63 → place_entry name m ≡ place_entry name n → m ≡ n
place-same name m n sm sn e = before m n (count-same name (m + 1) (n + 1) (omega (arith, sm)) (omega (arith, sn)) e)
  where
    before : (m n : ℕ) → m + 1 ≡ n + 1 → m ≡ n
    before m n e = omega (arith, e)
