-- Laws of numbers that are kept in range, and of their chain.
use Rattle.std.proofs.Common.{◌≡◌, ◌∙◌, ap, refl, ℕ, zero, suc, ◌<◌, ◌≤◌, nat_le, ℤ, neg_ℤ, unsigned_abs, All, List, [], ◌∷◌, Option, Some, None, IfSome, option_map, Bool, true, false, if◌then◌else◌, arith}
use Rattle.std.proofs.lemmas.Bool.Decides.{nat_tests}
use Rattle.std.proofs.lemmas.Int.{ints}
use Rattle.std.proofs.lemmas.List.Elements.{All-head, All-tail}
use Rattle.emtp_fix.specs.Items.{item}
use Rattle.emtp_fix.specs.Limit.{in_range, ◌>>=◌}
use Rattle.emtp_fix.specs.declared.limit.TheConstants.{LARGEST_VALUE}

pub in_range-some : (x : ℤ) → unsigned_abs x ≤ LARGEST_VALUE → in_range x ≡ Some x
in_range-some x small = by_test (nat_le (unsigned_abs x) LARGEST_VALUE) (grind (arith, nat_tests))
  where
    by_test : (b : Bool) → b ≡ true → (if b then Some x else None) ≡ Some x
    by_test true e = refl
    by_test false e = absurd (cc)

pub in_range-none : (x : ℤ) → LARGEST_VALUE < unsigned_abs x → in_range x ≡ None
in_range-none x large = by_test (nat_le (unsigned_abs x) LARGEST_VALUE) (grind (arith, nat_tests))
  where
    by_test : (b : Bool) → b ≡ false → (if b then Some x else None) ≡ None
    by_test false e = refl
    by_test true e = absurd (cc)

-- what is in range is the number itself
pub in_range-is : (x y : ℤ) → in_range x ≡ Some y → y ≡ x
in_range-is x y e = by_test (nat_le (unsigned_abs x) LARGEST_VALUE) e
  where
    by_test : (b : Bool) → (if b then Some x else None) ≡ Some y → y ≡ x
    by_test true e = cc
    by_test false e = absurd (cc)

pub in_range-small : (x y : ℤ) → in_range x ≡ Some y → unsigned_abs y ≤ LARGEST_VALUE
in_range-small x y e = by_test (nat_le (unsigned_abs x) LARGEST_VALUE) refl e
  where
    by_test : (b : Bool) → nat_le (unsigned_abs x) LARGEST_VALUE ≡ b → (if b then Some x else None) ≡ Some y → unsigned_abs y ≤ LARGEST_VALUE
    by_test true is e =
        let same : y ≡ x = cc in
        rw same (grind (arith, nat_tests))
    by_test false is e = absurd (cc)

-- a voltage, a current or a value of the control in its range
abbrev pub IsSmall : ℤ → Type 0
IsSmall x = unsigned_abs x ≤ LARGEST_VALUE

pub in_range-within : (x : ℤ) → IfSome (in_range x) IsSmall
in_range-within x = by (in_range x) refl
  where
    by : (o : Option ℤ) → in_range x ≡ o → IfSome o IsSmall
    by None is = tt
    by (Some y) is = in_range-small x y is

-- what a chain gives, by what its first link gives
pub chain-all : {A B : Type 0} (P : A → Type 0) (Q : B → Type 0) (o : Option A) (f : A → Option B) → IfSome o P → ((x : A) → P x → IfSome (f x) Q) → IfSome (o >>= f) Q
chain-all P Q None f first next = tt
chain-all P Q (Some x) f first next = next x first

pub chain-any : {A B : Type 0} (Q : B → Type 0) (o : Option A) (f : A → Option B) → ((x : A) → IfSome (f x) Q) → IfSome (o >>= f) Q
chain-any Q None f next = tt
chain-any Q (Some x) f next = next x

-- a number of a list in range, or 0 past its end
pub item_small : (xs : List ℤ) (i : ℕ) → All IsSmall xs → IsSmall (item xs i)
item_small [] i small = omega arith
item_small (x ∷ xs) zero small = All-head IsSmall x xs small
item_small (x ∷ xs) (suc i) small = item_small xs i (All-tail IsSmall x xs small)

-- chains whose links agree agree
pub chain-same : {A B : Type 0} {f g : A → Option B} (o : Option A) → ((x : A) → f x ≡ g x) → o >>= f ≡ o >>= g
chain-same None h = refl
chain-same (Some x) h = h x

-- a number with the opposite sign is in range where the number is
pub in_range_turned : (x y : ℤ) → y ≡ neg_ℤ x → in_range y ≡ option_map neg_ℤ (in_range x)
in_range_turned x y e =
    let size : unsigned_abs (neg_ℤ x) ≡ unsigned_abs x = omega (arith, ints) in
    ap in_range e ∙ ap (λ n. if nat_le n LARGEST_VALUE then Some (neg_ℤ x) else None) size ∙ by_test (nat_le (unsigned_abs x) LARGEST_VALUE)
  where
    by_test : (b : Bool) → (if b then Some (neg_ℤ x) else None) ≡ option_map neg_ℤ (if b then Some x else None)
    by_test true = refl
    by_test false = refl

-- a link of a chain: what it starts from goes through t, and then what it ends with goes through u
pub chain_turned : {A B C : Type 0} (t : A → A) (u : B → C) (o p : Option A) (f : A → Option B) (g : A → Option C) → p ≡ option_map t o → ((x : A) → g (t x) ≡ option_map u (f x)) → p >>= g ≡ option_map u (o >>= f)
chain_turned {A = A} t u o p f g e h = ap (λ q. q >>= g) e ∙ by_cases o
  where
    by_cases : (o : Option A) → option_map t o >>= g ≡ option_map u (o >>= f)
    by_cases None = refl
    by_cases (Some x) = h x

-- and chains that begin with a number agree where the next links agree at this number
pub in_range-chain : {B : Type 0} (x : ℤ) (f g : ℤ → Option B) → f x ≡ g x → in_range x >>= f ≡ in_range x >>= g
in_range-chain x f g e = by_test (nat_le (unsigned_abs x) LARGEST_VALUE)
  where
    by_test : (b : Bool) → (if b then Some x else None) >>= f ≡ (if b then Some x else None) >>= g
    by_test true = e
    by_test false = refl
