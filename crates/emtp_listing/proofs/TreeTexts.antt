-- The text of a tree tells the tree: each side ends at a blank or at a parenthesis.
use Rattle.std.proofs.Common.{◌≡◌, ◌++◌, ◌∙◌, ◌+◌, ◌^◌, ◌<◌, ◌≤◌, ◌==◌, sym, ap, refl, arith, subst, Bool, true, false, not, List, [], ◌∷◌, ℕ, ℤ, zero, suc, pos, negsuc, length, get_or, drop, take, append_assoc, codes, decimal, inl, inr}
use Rattle.std.specs.Prelude.{◌&&◌, ◌⊎◌, All, if◌then◌else◌}
use Rattle.std.specs.Char.{is_ascii_alphabetic, is_ascii_alphanumeric, is_ascii_digit}
use Rattle.std.specs.List.{list_all}
use Rattle.std.specs.Str.{bytes_eq}
use Rattle.std.proofs.lemmas.Bool.{cases_order}
use Rattle.std.proofs.lemmas.Bool.Decides.{nat_tests}
use Rattle.std.proofs.lemmas.Fmt.{decimal_injective}
use Rattle.std.proofs.lemmas.Int.{ints}
use Rattle.std.proofs.lemmas.List.Elements.{All-get_or, All-weaker}
use Rattle.std.proofs.lemmas.List.Sums.{AllPass-from_list_all, list_all-from_AllPass}
use Rattle.emtp_case.specs.held.Range.{IsBetween}
use Rattle.emtp_case.specs.declared.expr.BinaryOp.{BinaryOp}
use Rattle.emtp_case.specs.declared.expr.BinaryOp.TheVariants.{Add, And, Div, Eq, Ge, Gt, Le, Lt, Mul, Ne, Or, Sub}
use Rattle.emtp_case.specs.declared.expr.UnaryOp.{UnaryOp}
use Rattle.emtp_case.specs.declared.expr.UnaryOp.TheVariants.{Abs, Minus, Not, Sign, Sqrt, Trunc}
use Rattle.emtp_fix.specs.Decimal.{fixed_text}
use Rattle.emtp_fix.specs.declared.limit.TheConstants.{LARGEST_VALUE}
use Rattle.emtp_listing.specs.ExpressionText.{binary_text, binary_word, is_new, is_plain, opening, variable_text}
use Rattle.emtp_listing.specs.Law.{AreApart, IsFree}
use Rattle.emtp_listing.proofs.Cut.{and_both, and_first, and_rest, cut, free-head, free-tail}
use Rattle.emtp_listing.proofs.Marks.{between-small}
use Rattle.emtp_listing.proofs.Numbers.{decimal-free, first-digit, fixed-free, fixed-same}
use Rattle.emtp_listing.proofs.Trees.{Amount, IsTree, One, Place, Tree, Two, text_of}

-- ---- what stands in a number or a name, and what behind it

-- no blank and no parenthesis
abbrev is_inner : ℕ → Bool
is_inner x = not (x == 32) && (not (x == 40) && not (x == 41))

abbrev IsInner : List ℕ → Type 0
IsInner text = list_all is_inner text ≡ true

abbrev Stops : List ℕ → Type 0
Stops [] = Unit {0}
Stops (x ∷ xs) = is_inner x ≡ false

-- behind an expression: nothing, a blank or a closing parenthesis
abbrev Ends : List ℕ → Type 0
Ends [] = Unit {0}
Ends (x ∷ xs) = (x ≡ 32) ⊎ (x ≡ 41)

ends-stop : (s : List ℕ) → Ends s → Stops s
ends-stop [] h = tt
ends-stop (x ∷ xs) (inl e) = ap is_inner e
ends-stop (x ∷ xs) (inr e) = ap is_inner e

not-opened : (x s : List ℕ) → Ends s → s ≡ 40 ∷ x → ⊥
not-opened x [] h e = let l : 0 ≡ suc (length x) = ap length e in omega (arith, l)
not-opened x (y ∷ s) (inl h) e = let l : y ≡ 40 = ap (λ (l : List ℕ). get_or l 0 0) e in omega (arith, h, l)
not-opened x (y ∷ s) (inr h) e = let l : y ≡ 40 = ap (λ (l : List ℕ). get_or l 0 0) e in omega (arith, h, l)

head-same : (x y : ℕ) (xs ys : List ℕ) → x ∷ xs ≡ y ∷ ys → x ≡ y
head-same x y xs ys e = ap (λ (l : List ℕ). get_or l 0 0) e

tail-same : (x y : ℕ) (xs ys : List ℕ) → x ∷ xs ≡ y ∷ ys → xs ≡ ys
tail-same x y xs ys e = ap (λ (l : List ℕ). drop 1 l) e

none-some : (y : ℕ) (ys : List ℕ) → [] ≡ y ∷ ys → ⊥
none-some y ys e = let l : 0 ≡ suc (length ys) = ap length e in omega (arith, l)

inner-head : (x : ℕ) (xs : List ℕ) → IsInner (x ∷ xs) → is_inner x ≡ true
inner-head x xs is = and_first (is_inner x) (list_all is_inner xs) is

inner-tail : (x : ℕ) (xs : List ℕ) → IsInner (x ∷ xs) → IsInner xs
inner-tail x xs is = and_rest (is_inner x) (list_all is_inner xs) is

true-false : (b : Bool) → b ≡ true → b ≡ false → ⊥
true-false true h k = absurd (cc)
true-false false h k = absurd (cc)

-- both end where something else begins
cut-inner : (xs ys s t : List ℕ) → IsInner xs → IsInner ys → Stops s → Stops t → xs ++ s ≡ ys ++ t → (xs ≡ ys) × (s ≡ t)
cut-inner [] [] s t f g h k e = (refl, e)
cut-inner [] (y ∷ ys) [] t f g h k e = absurd (none-some y (ys ++ t) e)
cut-inner [] (y ∷ ys) (x ∷ s) t f g h k e = absurd (true-false (is_inner y) (inner-head y ys g) (ap is_inner (sym (head-same x y s (ys ++ t) e)) ∙ h))
cut-inner (x ∷ xs) [] s [] f g h k e = absurd (none-some x (xs ++ s) (sym e))
cut-inner (x ∷ xs) [] s (y ∷ t) f g h k e = absurd (true-false (is_inner x) (inner-head x xs f) (ap is_inner (head-same x y (xs ++ s) t e) ∙ k))
cut-inner (x ∷ xs) (y ∷ ys) s t f g h k e =
    let rest = cut-inner xs ys s t (inner-tail x xs f) (inner-tail y ys g) h k (tail-same x y (xs ++ s) (ys ++ t) e) in
    (ap (λ (z : ℕ). z ∷ xs) (head-same x y (xs ++ s) (ys ++ t) e) ∙ ap (λ (zs : List ℕ). y ∷ zs) rest.0, rest.1)

-- a number or a name has no parenthesis, and none stands behind it
no-opening : (xs front rest s : List ℕ) → IsInner xs → IsInner front → Ends s → xs ++ s ≡ front ++ 40 ∷ rest → ⊥
no-opening xs front rest s f g h e = not-opened rest s h (cut-inner xs front s (40 ∷ rest) f g (ends-stop s h) refl e).1

-- ---- numbers and names

free-inner : (xs : List ℕ) → IsFree 32 xs → IsFree 40 xs → IsFree 41 xs → IsInner xs
free-inner [] f g h = refl
free-inner (x ∷ xs) f g h =
    and_both _ _
    (and_both _ _ (first 32 x xs f) (and_both _ _ (first 40 x xs g) (first 41 x xs h)))
    (free-inner xs (free-tail 32 x xs f) (free-tail 40 x xs g) (free-tail 41 x xs h))
  where
    first : (b x : ℕ) (xs : List ℕ) → IsFree b (x ∷ xs) → not (x == b) ≡ true
    first b x xs free = and_first (not (x == b)) (list_all (λ x. not (x == b)) xs) free

amount-inner : (x : ℤ) → IsBetween 0 LARGEST_VALUE x → IsInner (fixed_text x 9)
amount-inner x is =
    let small = between-small 0 LARGEST_VALUE x (omega arith) is in
    free-inner (fixed_text x 9) (fixed-free 32 x 9 (omega arith) small) (fixed-free 40 x 9 (omega arith) small) (fixed-free 41 x 9 (omega arith) small)

amount-first : (x : ℤ) (s : List ℕ) → IsBetween 0 LARGEST_VALUE x → is_ascii_digit (get_or (fixed_text x 9 ++ s) 0 0) ≡ true
amount-first (pos x) s is = first-digit x 9 s (omega (arith, ints, is.most))
amount-first (negsuc x) s is = absurd (omega (arith, ints, is.least))

plain-inner : (name : List ℕ) → is_plain name ≡ true → IsInner name
plain-inner [] is = refl
plain-inner (x ∷ xs) is =
    and_both _ _ (letter x (and_first (is_ascii_alphabetic x) (list_all is_ascii_alphanumeric xs) is))
    (list_all-from_AllPass is_inner xs (All-weaker (λ y. is_ascii_alphanumeric y ≡ true) (λ y. is_inner y ≡ true) other xs (AllPass-from_list_all is_ascii_alphanumeric xs (and_rest (is_ascii_alphabetic x) (list_all is_ascii_alphanumeric xs) is))))
  where
    letter : (y : ℕ) → is_ascii_alphabetic y ≡ true → is_inner y ≡ true
    letter y h = grind (arith, nat_tests)

    other : (y : ℕ) → is_ascii_alphanumeric y ≡ true → is_inner y ≡ true
    other y h = grind (arith, nat_tests)

plain-first : (name s : List ℕ) → is_plain name ≡ true → is_ascii_alphabetic (get_or (name ++ s) 0 0) ≡ true
plain-first [] s is = absurd (cc)
plain-first (x ∷ xs) s is = and_first (is_ascii_alphabetic x) (list_all is_ascii_alphanumeric xs) is

-- the first byte of a number, of a name and of a place
abbrev IsStart : ℕ → Type 0
IsStart x = (is_ascii_alphabetic x ≡ true) ⊎ (x ≡ 35)

-- a name, or a place
abbrev chosen : Bool → List ℕ → ℕ → List ℕ
chosen b name at = if b then name else 35 ∷ decimal (at + 1)

chosen-inner : (b : Bool) (name : List ℕ) (at : ℕ) → (b ≡ true → is_plain name ≡ true) → at < 2 ^ 63 → IsInner (chosen b name at)
chosen-inner true name at plain few = plain-inner name (plain refl)
chosen-inner false name at plain few =
    let small : at + 1 < 2 ^ 64 = omega (arith, few) in
    and_both _ _ refl (free-inner (decimal (at + 1)) (decimal-free 32 (at + 1) (omega arith) small) (decimal-free 40 (at + 1) (omega arith) small) (decimal-free 41 (at + 1) (omega arith) small))

chosen-first : (b : Bool) (name : List ℕ) (at : ℕ) (s : List ℕ) → (b ≡ true → is_plain name ≡ true) → IsStart (get_or (chosen b name at ++ s) 0 0)
chosen-first true name at s plain = inl (plain-first name s (plain refl))
chosen-first false name at s plain = inr refl

-- a formula with such variables, whose names are those of a case
pub record HasVars (names : List (List ℕ)) (vars : List ℕ) : Type 0 where
  pub apart : AreApart names
  pub there : All (λ v. v < length names) vars
  pub few : length vars < 2 ^ 63

abbrev name_at : List (List ℕ) → List ℕ → ℕ → List ℕ
name_at names vars at = get_or names (get_or vars at 0) []

abbrev by_name : List (List ℕ) → List ℕ → ℕ → Bool
by_name names vars at = is_plain (name_at names vars at) && is_new (get_or vars at 0) (take at vars)

variable-inner : (names : List (List ℕ)) (vars : List ℕ) (at : ℕ) → HasVars names vars → at < length vars → IsInner (variable_text names vars at)
variable-inner names vars at has there =
    chosen-inner (by_name names vars at) (name_at names vars at) at (λ h. and_first (is_plain (name_at names vars at)) (is_new (get_or vars at 0) (take at vars)) h) (omega (arith, there, has.few))

variable-first : (names : List (List ℕ)) (vars : List ℕ) (at : ℕ) (s : List ℕ) → IsStart (get_or (variable_text names vars at ++ s) 0 0)
variable-first names vars at s =
    chosen-first (by_name names vars at) (name_at names vars at) at s (λ h. and_first (is_plain (name_at names vars at)) (is_new (get_or vars at 0) (take at vars)) h)

-- a variable that isn't new stands before
new-apart : (vars : List ℕ) (m n y : ℕ) → m < n → n ≤ length vars → is_new y (take n vars) ≡ true → get_or vars m 0 ≡ y → ⊥
new-apart [] m zero y less few new e = omega (arith, less)
new-apart [] m (suc n) y less few new e = omega (arith, few)
new-apart (v ∷ vars) m zero y less few new e = omega (arith, less)
new-apart (v ∷ vars) zero (suc n) y less few new e = free-head y v (take n vars) new e
new-apart (v ∷ vars) (suc m) (suc n) y less few new e = new-apart vars m n y (omega (arith, less)) (omega (arith, few)) (free-tail y v (take n vars) new) e

variable-same : (names : List (List ℕ)) (vars : List ℕ) (m n : ℕ) → HasVars names vars → m < length vars → n < length vars → variable_text names vars m ≡ variable_text names vars n → m ≡ n
variable-same names vars m n has there_m there_n e = both (by_name names vars m) (by_name names vars n) refl refl e
  where
    letter : (x : ℕ) → is_ascii_alphabetic x ≡ true → x ≡ 35 → ⊥
    letter x h k = grind (arith, nat_tests)

    plain : (at : ℕ) → by_name names vars at ≡ true → is_plain (name_at names vars at) ≡ true
    plain at h = and_first (is_plain (name_at names vars at)) (is_new (get_or vars at 0) (take at vars)) h

    new : (at : ℕ) → by_name names vars at ≡ true → is_new (get_or vars at 0) (take at vars) ≡ true
    new at h = and_rest (is_plain (name_at names vars at)) (is_new (get_or vars at 0) (take at vars)) h

    no-place : (name : List ℕ) (at : ℕ) → is_plain name ≡ true → name ≡ 35 ∷ decimal (at + 1) → ⊥
    no-place name at is same = letter (get_or (name ++ []) 0 0) (plain-first name [] is) (ap (λ (l : List ℕ). get_or (l ++ []) 0 0) same)

    before : (m n : ℕ) → m + 1 ≡ n + 1 → m ≡ n
    before m n same = omega (arith, same)

    both : (b c : Bool) → by_name names vars m ≡ b → by_name names vars n ≡ c → chosen b (name_at names vars m) m ≡ chosen c (name_at names vars n) n → m ≡ n
    both true true h k same =
        let m_is = All-get_or (λ v. v < length names) vars m 0 there_m has.there in
        let n_is = All-get_or (λ v. v < length names) vars n 0 there_n has.there in
        let var = has.apart (get_or vars m 0) (get_or vars n 0) m_is n_is same in
        elim (cases_order m n) [
          | inl equal ↦ equal
          | inr (inl less) ↦ absurd (new-apart vars m n (get_or vars n 0) less (omega (arith, there_n)) (new n k) var)
          | inr (inr more) ↦ absurd (new-apart vars n m (get_or vars m 0) more (omega (arith, there_m)) (new m h) (sym var))
        ]
    both true false h k same = absurd (no-place (name_at names vars m) n (plain m h) same)
    both false true h k same = absurd (no-place (name_at names vars n) m (plain n k) (sym same))
    both false false h k same = before m n (decimal_injective (m + 1) (n + 1) (omega (arith, there_m, has.few)) (omega (arith, there_n, has.few)) (tail-same 35 35 (decimal (m + 1)) (decimal (n + 1)) same))

-- ---- operators

-- what is before the parenthesis of an opening, and what behind it
abbrev front : UnaryOp → List ℕ
front Minus = []
front Not = []
front Abs = codes "ABS"
front Sqrt = codes "SQRT"
front Trunc = codes "TRUNC"
front Sign = codes "SIGN"

abbrev back : UnaryOp → List ℕ
back Minus = codes "-"
back Not = codes ".NOT. "
back op = []

opening-parts : (op : UnaryOp) (x s : List ℕ) → (opening op ++ x) ++ s ≡ front op ++ 40 ∷ (back op ++ (x ++ s))
opening-parts Minus x s = refl
opening-parts Not x s = refl
opening-parts Abs x s = refl
opening-parts Sqrt x s = refl
opening-parts Trunc x s = refl
opening-parts Sign x s = refl

front-inner : (op : UnaryOp) → IsInner (front op)
front-inner Minus = refl
front-inner Not = refl
front-inner Abs = refl
front-inner Sqrt = refl
front-inner Trunc = refl
front-inner Sign = refl

-- the second byte tells the operator
abbrev unary_of : ℕ → UnaryOp
unary_of x = if x == 45 then Minus else if x == 46 then Not else if x == 66 then Abs else if x == 81 then Sqrt else if x == 82 then Trunc else Sign

second-byte : (op : UnaryOp) (x s : List ℕ) → unary_of (get_or ((opening op ++ x) ++ s) 1 0) ≡ op
second-byte Minus x s = refl
second-byte Not x s = refl
second-byte Abs x s = refl
second-byte Sqrt x s = refl
second-byte Trunc x s = refl
second-byte Sign x s = refl

behind-opening : (op : UnaryOp) (x s : List ℕ) → drop (length (opening op)) ((opening op ++ x) ++ s) ≡ x ++ s
behind-opening Minus x s = refl
behind-opening Not x s = refl
behind-opening Abs x s = refl
behind-opening Sqrt x s = refl
behind-opening Trunc x s = refl
behind-opening Sign x s = refl

-- a sign
abbrev IsSign : ℕ → Type 0
IsSign x = (x ≡ 45) ⊎ (x ≡ 46)

-- where a parenthesis comes first, a sign is next
signed : (op : UnaryOp) (x s : List ℕ) → get_or ((opening op ++ x) ++ s) 0 0 ≡ 40 → IsSign (get_or ((opening op ++ x) ++ s) 1 0)
signed Minus x s e = inl refl
signed Not x s e = inr refl
signed Abs x s e = absurd (omega (arith, e))
signed Sqrt x s e = absurd (omega (arith, e))
signed Trunc x s e = absurd (omega (arith, e))
signed Sign x s e = absurd (omega (arith, e))

opening-first : (op : UnaryOp) (x s : List ℕ) → IsSign (get_or ((opening op ++ x) ++ s) 0 0) → ⊥
opening-first Minus x s e = no (e)
  where
    no : IsSign 40 → ⊥
    no (inl h) = omega (arith, h)
    no (inr h) = omega (arith, h)
opening-first Not x s e = no e
  where
    no : IsSign 40 → ⊥
    no (inl h) = omega (arith, h)
    no (inr h) = omega (arith, h)
opening-first Abs x s e = no e
  where
    no : IsSign 65 → ⊥
    no (inl h) = omega (arith, h)
    no (inr h) = omega (arith, h)
opening-first Sqrt x s e = no e
  where
    no : IsSign 83 → ⊥
    no (inl h) = omega (arith, h)
    no (inr h) = omega (arith, h)
opening-first Trunc x s e = no e
  where
    no : IsSign 84 → ⊥
    no (inl h) = omega (arith, h)
    no (inr h) = omega (arith, h)
opening-first Sign x s e = no e
  where
    no : IsSign 83 → ⊥
    no (inl h) = omega (arith, h)
    no (inr h) = omega (arith, h)

abbrev binary_of : List ℕ → BinaryOp
binary_of word =
    if bytes_eq word (codes "+") then Add
    else if bytes_eq word (codes "-") then Sub
    else if bytes_eq word (codes "*") then Mul
    else if bytes_eq word (codes "/") then Div
    else if bytes_eq word (codes ".GT.") then Gt
    else if bytes_eq word (codes ".GE.") then Ge
    else if bytes_eq word (codes ".LT.") then Lt
    else if bytes_eq word (codes ".LE.") then Le
    else if bytes_eq word (codes ".EQ.") then Eq
    else if bytes_eq word (codes ".NE.") then Ne
    else if bytes_eq word (codes ".AND.") then And
    else Or

binary-back : (op : BinaryOp) → binary_of (binary_word op) ≡ op
binary-back Add = refl
binary-back Sub = refl
binary-back Mul = refl
binary-back Div = refl
binary-back Gt = refl
binary-back Ge = refl
binary-back Lt = refl
binary-back Le = refl
binary-back Eq = refl
binary-back Ne = refl
binary-back And = refl
binary-back Or = refl

binary-same : (a b : BinaryOp) → binary_word a ≡ binary_word b → a ≡ b
binary-same a b e = sym (binary-back a) ∙ ap binary_of e ∙ binary-back b

binary-free : (op : BinaryOp) → IsFree 32 (binary_word op)
binary-free Add = refl
binary-free Sub = refl
binary-free Mul = refl
binary-free Div = refl
binary-free Gt = refl
binary-free Ge = refl
binary-free Lt = refl
binary-free Le = refl
binary-free Eq = refl
binary-free Ne = refl
binary-free And = refl
binary-free Or = refl

-- ---- trees

-- what stands behind the parts of an operator's text

one-behind : (a s : List ℕ) → (a ++ 41 ∷ []) ++ s ≡ a ++ 41 ∷ s
one-behind a s = append_assoc a (41 ∷ []) s

abbrev behind_word : List ℕ → List ℕ → List ℕ
behind_word b s = 32 ∷ (b ++ 41 ∷ s)

abbrev behind_left : BinaryOp → List ℕ → List ℕ → List ℕ
behind_left op b s = 32 ∷ (binary_word op ++ behind_word b s)

two-behind : (op : BinaryOp) (a b s : List ℕ) → binary_text op a b ++ s ≡ 40 ∷ (a ++ behind_left op b s)
two-behind op a b s =
    ap (λ (t : List ℕ). 40 ∷ t)
    (append_assoc a (32 ∷ (binary_word op ++ 32 ∷ (b ++ 41 ∷ []))) s
    ∙ ap (λ (t : List ℕ). a ++ 32 ∷ t) (append_assoc (binary_word op) (32 ∷ (b ++ 41 ∷ [])) s ∙ ap (λ (t : List ℕ). binary_word op ++ 32 ∷ t) (one-behind b s)))

-- no sign comes first
no-sign : (names : List (List ℕ)) (vars : List ℕ) (t : Tree) (s : List ℕ) → IsTree (length vars) t → IsSign (get_or (text_of names vars t ++ s) 0 0) → ⊥
no-sign names vars (Amount x) s is e = digit (get_or (fixed_text x 9 ++ s) 0 0) (amount-first x s is) e
  where
    digit : (d : ℕ) → is_ascii_digit d ≡ true → IsSign d → ⊥
    digit d h (inl e) = grind (arith, nat_tests)
    digit d h (inr e) = grind (arith, nat_tests)
no-sign names vars (Place at) s is e = start (get_or (variable_text names vars at ++ s) 0 0) (variable-first names vars at s) e
  where
    start : (d : ℕ) → IsStart d → IsSign d → ⊥
    start d (inl h) (inl e) = grind (arith, nat_tests)
    start d (inl h) (inr e) = grind (arith, nat_tests)
    start d (inr h) (inl e) = omega (arith, h, e)
    start d (inr h) (inr e) = omega (arith, h, e)
no-sign names vars (One op a) s is e = opening-first op (text_of names vars a ++ 41 ∷ []) s e
no-sign names vars (Two op a b) s is (inl e) = omega (arith, e)
no-sign names vars (Two op a b) s is (inr e) = omega (arith, e)

-- a number is no variable
kinds-apart : (names : List (List ℕ)) (vars : List ℕ) (x : ℤ) (at : ℕ) → IsBetween 0 LARGEST_VALUE x → fixed_text x 9 ≡ variable_text names vars at → ⊥
kinds-apart names vars x at is e = apart (get_or (fixed_text x 9 ++ []) 0 0) (amount-first x [] is) (subst (λ (t : List ℕ). IsStart (get_or (t ++ []) 0 0)) (sym e) (variable-first names vars at []))
  where
    apart : (d : ℕ) → is_ascii_digit d ≡ true → IsStart d → ⊥
    apart d h (inl k) = grind (arith, nat_tests)
    apart d h (inr k) = grind (arith, nat_tests)

-- an operator of one value is none of two
forms-apart : (names : List (List ℕ)) (vars : List ℕ) (op : UnaryOp) (x s : List ℕ) (t : Tree) (u : List ℕ) → IsTree (length vars) t
    → (opening op ++ x) ++ s ≡ 40 ∷ (text_of names vars t ++ u) → ⊥
forms-apart names vars op x s t u is e =
    no-sign names vars t u is (subst (λ (b : ℕ). IsSign b) (ap (λ (l : List ℕ). get_or l 1 0) e) (signed op x s (ap (λ (l : List ℕ). get_or l 0 0) e)))

pub tree-cut : (names : List (List ℕ)) (vars : List ℕ) (a b : Tree) (s t : List ℕ) → HasVars names vars → IsTree (length vars) a → IsTree (length vars) b → Ends s → Ends t
    → text_of names vars a ++ s ≡ text_of names vars b ++ t → (a ≡ b) × (s ≡ t)
tree-cut names vars (Amount x) (Amount y) s t has is js h k e =
    let parts = cut-inner (fixed_text x 9) (fixed_text y 9) s t (amount-inner x is) (amount-inner y js) (ends-stop s h) (ends-stop t k) e in
    (ap (λ (z : ℤ). Amount z) (fixed-same x y 9 (between-small 0 LARGEST_VALUE x (omega arith) is) (between-small 0 LARGEST_VALUE y (omega arith) js) parts.0), parts.1)
tree-cut names vars (Amount x) (Place n) s t has is js h k e =
    absurd (kinds-apart names vars x n is (cut-inner (fixed_text x 9) (variable_text names vars n) s t (amount-inner x is) (variable-inner names vars n has js) (ends-stop s h) (ends-stop t k) e).0)
tree-cut names vars (Amount x) (One op b) s t has is js h k e =
    absurd (no-opening (fixed_text x 9) (front op) _ s (amount-inner x is) (front-inner op) h (e ∙ opening-parts op (text_of names vars b ++ 41 ∷ []) t))
tree-cut names vars (Amount x) (Two op b c) s t has is js h k e = absurd (no-opening (fixed_text x 9) [] _ s (amount-inner x is) refl h e)
tree-cut names vars (Place m) (Amount y) s t has is js h k e =
    absurd (kinds-apart names vars y m js (sym (cut-inner (variable_text names vars m) (fixed_text y 9) s t (variable-inner names vars m has is) (amount-inner y js) (ends-stop s h) (ends-stop t k) e).0))
tree-cut names vars (Place m) (Place n) s t has is js h k e =
    let parts = cut-inner (variable_text names vars m) (variable_text names vars n) s t (variable-inner names vars m has is) (variable-inner names vars n has js) (ends-stop s h) (ends-stop t k) e in
    (ap (λ (z : ℕ). Place z) (variable-same names vars m n has is js parts.0), parts.1)
tree-cut names vars (Place m) (One op b) s t has is js h k e =
    absurd (no-opening (variable_text names vars m) (front op) _ s (variable-inner names vars m has is) (front-inner op) h (e ∙ opening-parts op (text_of names vars b ++ 41 ∷ []) t))
tree-cut names vars (Place m) (Two op b c) s t has is js h k e = absurd (no-opening (variable_text names vars m) [] _ s (variable-inner names vars m has is) refl h e)
tree-cut names vars (One op a) (Amount y) s t has is js h k e =
    absurd (no-opening (fixed_text y 9) (front op) _ t (amount-inner y js) (front-inner op) k (sym e ∙ opening-parts op (text_of names vars a ++ 41 ∷ []) s))
tree-cut names vars (One op a) (Place n) s t has is js h k e =
    absurd (no-opening (variable_text names vars n) (front op) _ t (variable-inner names vars n has js) (front-inner op) k (sym e ∙ opening-parts op (text_of names vars a ++ 41 ∷ []) s))
tree-cut names vars (One op a) (One op2 b) s t has is js h k e =
    let x = text_of names vars a ++ 41 ∷ [] in
    let y = text_of names vars b ++ 41 ∷ [] in
    let ops : op ≡ op2 = sym (second-byte op x s) ∙ ap (λ (l : List ℕ). unary_of (get_or l 1 0)) e ∙ second-byte op2 y t in
    let texts : x ++ s ≡ y ++ t =
    sym (behind-opening op x s) ∙ ap (λ (l : List ℕ). drop (length (opening op)) l) e ∙ ap (λ (o : UnaryOp). drop (length (opening o)) ((opening op2 ++ y) ++ t)) ops ∙ behind-opening op2 y t in
    let rest = tree-cut names vars a b (41 ∷ s) (41 ∷ t) has is js (inr refl) (inr refl) (sym (one-behind (text_of names vars a) s) ∙ texts ∙ one-behind (text_of names vars b) t) in
    (ap (λ (o : UnaryOp). One o a) ops ∙ ap (λ (u : Tree). One op2 u) rest.0, tail-same 41 41 s t rest.1)
tree-cut names vars (One op a) (Two op2 b c) s t has is js h k e =
    absurd (forms-apart names vars op (text_of names vars a ++ 41 ∷ []) s b (behind_left op2 (text_of names vars c) t) js.0 (e ∙ two-behind op2 (text_of names vars b) (text_of names vars c) t))
tree-cut names vars (Two op a b) (Amount y) s t has is js h k e = absurd (no-opening (fixed_text y 9) [] _ t (amount-inner y js) refl k (sym e))
tree-cut names vars (Two op a b) (Place n) s t has is js h k e = absurd (no-opening (variable_text names vars n) [] _ t (variable-inner names vars n has js) refl k (sym e))
tree-cut names vars (Two op a b) (One op2 c) s t has is js h k e =
    absurd (forms-apart names vars op2 (text_of names vars c ++ 41 ∷ []) t a (behind_left op (text_of names vars b) s) is.0 (sym e ∙ two-behind op (text_of names vars a) (text_of names vars b) s))
tree-cut names vars (Two op a b) (Two op2 c d) s t has is js h k e =
    let left = text_of names vars a in
    let left2 = text_of names vars c in
    let right = text_of names vars b in
    let right2 = text_of names vars d in
    let whole = sym (two-behind op left right s) ∙ e ∙ two-behind op2 left2 right2 t in
    let first = tree-cut names vars a c (behind_left op right s) (behind_left op2 right2 t) has is.0 js.0 (inl refl) (inl refl) (tail-same 40 40 _ _ whole) in
    let words = cut 32 (binary_word op) (binary_word op2) (behind_word right s) (behind_word right2 t) (binary-free op) (binary-free op2) refl refl (tail-same 32 32 _ _ first.1) in
    let second = tree-cut names vars b d (41 ∷ s) (41 ∷ t) has is.1 js.1 (inr refl) (inr refl) (tail-same 32 32 _ _ words.1) in
    (ap (λ (o : BinaryOp). Two o a b) (binary-same op op2 words.0) ∙ ap (λ (u : Tree). Two op2 u b) first.0 ∙ ap (λ (u : Tree). Two op2 c u) second.0, tail-same 41 41 s t second.1)

pub tree-same : (names : List (List ℕ)) (vars : List ℕ) (a b : Tree) → HasVars names vars → IsTree (length vars) a → IsTree (length vars) b → text_of names vars a ≡ text_of names vars b → a ≡ b
tree-same names vars a b has is js e = (tree-cut names vars a b [] [] has is js tt tt (ap (λ (l : List ℕ). l ++ []) e)).0
