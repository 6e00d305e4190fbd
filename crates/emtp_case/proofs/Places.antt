-- The first place of an item, and of a number that a test holds of.
use Rattle.std.proofs.Common.{◌+◌, ◌∙◌, IsSome, ap, arith, cond, get_or, is_none, nat_lt, refl, sym}
use Rattle.std.proofs.lemmas.Bool.Decides.{nat_tests}
use Rattle.std.proofs.lemmas.List.FromFn.{get_or-range_with_len, length-range_with_len}
use Rattle.std.proofs.lemmas.List.Quantifiers.{position-Some}
use Rattle.std.proofs.lemmas.List.Sums.{fails_before_first, position_or_len_is}
use Rattle.std.proofs.lemmas.Option.{slice_get-get_or}
use Rattle.std.proofs.lemmas.Slice.Eq.{bytes_eq-Decides}
use Rattle.std.specs.List.{position, position_or_len, range_with_len}
use Rattle.std.specs.Prelude.{◌≡◌, ◌≢◌, ◌<◌, ◌≤◌, All, Bool, IfSome, List, None, Option, Some, false, length, slice_get, slice_index_or, true, ℕ}
use Rattle.std.specs.Str.{bytes_eq}

not_before : {X : Type 0} (p : X → Bool) (xs : List X) → position p xs ≡ None → length xs ≤ position_or_len p xs
not_before p xs h = grind (arith, nat_tests)

pub position-None : {X : Type 0} (p : X → Bool) (xs : List X) → position p xs ≡ None → (k : ℕ) (d : X) → k < length xs → p (slice_index_or xs k d) ≡ false
position-None p xs h k d within = let past : length xs ≤ position_or_len p xs = not_before p xs h in fails_before_first p xs k d (omega arith)

-- where a name is found it stands, and where it isn't none is equal to it
pub name_found : (names : List (List ℕ)) (name : List ℕ) (at : ℕ) → position (λ n. bytes_eq n name) names ≡ Some at → slice_get names at ≡ Some name
name_found names name at h =
    let there = position-Some (λ n. bytes_eq n name) names at name h in
    slice_get-get_or names at name there.0 ∙ ap Some ((bytes_eq-Decides (slice_index_or names at name) name).0 there.1)

pub name_missing : (names : List (List ℕ)) (name : List ℕ) → position (λ n. bytes_eq n name) names ≡ None → All (λ n. n ≢ name) names
name_missing names name h = λ k d within same.
    let fails : bytes_eq (slice_index_or names k d) name ≡ false = position-None (λ n. bytes_eq n name) names h k d within in
    let passes : bytes_eq (slice_index_or names k d) name ≡ true = (bytes_eq-Decides (slice_index_or names k d) name).1 same in
    absurd (cc)

pub place_found : (names : List (List ℕ)) (name : List ℕ) (r : Option ℕ) → r ≡ position (λ n. bytes_eq n name) names → IfSome r (λ at. slice_get names at ≡ Some name)
place_found names name None h = tt
place_found names name (Some at) h = name_found names name at (sym h)

-- ---- tests of numbers

pub is_none-some : {X : Type 0} (o : Option X) → IsSome o → is_none o ≡ false
is_none-some (Some x) h = refl
is_none-some None h = absurd (cc)

-- a test of the numbers below n that passes first at b
place_is : (p : ℕ → Bool) (n b : ℕ) → b ≤ n → ((k : ℕ) → k < b → p k ≡ false) → (b < n → p b ≡ true) → position_or_len p (range_with_len 0 n) ≡ b
place_is p n b within fails passes =
    position_or_len_is p (range_with_len 0 n) b 0 (omega (arith, within, length-range_with_len 0 n))
    (λ k h. let e : get_or (range_with_len 0 n) k 0 ≡ k = get_or-range_with_len 0 n k 0 (omega (arith, h, within)) ∙ plus_zero k in ap p e ∙ fails k h)
    (λ h. let below : b < n = omega (arith, h, length-range_with_len 0 n) in let e : get_or (range_with_len 0 n) b 0 ≡ b = get_or-range_with_len 0 n b 0 below ∙ plus_zero b in ap p e ∙ passes below)
  where
    plus_zero : (k : ℕ) → 0 + k ≡ k
    plus_zero k = omega arith

found : (k n : ℕ) → k < n → cond (nat_lt k n) (Some k) None ≡ Some k
found k n below = grind (arith, nat_tests)

nowhere : (n : ℕ) → cond (nat_lt n n) (Some n) None ≡ None
nowhere n = grind (arith, nat_tests)

pub first_at : (p : ℕ → Bool) (n b : ℕ) → b < n → ((k : ℕ) → k < b → p k ≡ false) → p b ≡ true → position p (range_with_len 0 n) ≡ Some b
first_at p n b below fails passes =
    let place = place_is p n b (omega (arith, below)) fails (λ h. passes) in
    let long = length-range_with_len 0 n in
    rw (place, long) (found b n below)

pub first_none : (p : ℕ → Bool) (n : ℕ) → ((k : ℕ) → k < n → p k ≡ false) → position p (range_with_len 0 n) ≡ None
first_none p n fails =
    let place = place_is p n n (omega arith) fails (λ h. absurd (omega (arith, h))) in
    let long = length-range_with_len 0 n in
    rw (place, long) (nowhere n)

pub place_within : (p : ℕ → Bool) (n k : ℕ) → position p (range_with_len 0 n) ≡ Some k → k < n
place_within p n k is = let there = position-Some p (range_with_len 0 n) k 0 is in omega (arith, there.0, length-range_with_len 0 n)
