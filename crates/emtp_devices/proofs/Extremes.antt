-- The greatest or least of what the inputs bring: a bound, and reached.
use Rattle.std.proofs.Common.{◌≡◌, ◌∙◌, sym, refl, suc, ◌<◌, ◌⊎◌, inl, inr, ℤ, pos, ◌≤ℤ◌, ◌<ℤ◌, List, [], ◌∷◌, All, length, map, Bool, true, false, int_le, int_lt, if◌then◌else◌, arith}
use Rattle.std.proofs.lemmas.Int.{ints}
use Rattle.std.proofs.lemmas.List.Elements.{All-cons}
use Rattle.std.specs.Int.{int_max, int_min}
use Rattle.std.specs.List.{Contains, fold}
use Rattle.emtp_case.specs.declared.control.Input.{Input}
use Rattle.emtp_devices.specs.Device.{brought, extreme, extreme_of_two}

max-above : (y s : ℤ) → (y ≤ℤ int_max y s) × (s ≤ℤ int_max y s)
max-above y s = by_test (int_lt s y) refl
  where
    by_test : (b : Bool) → int_lt s y ≡ b → (y ≤ℤ (if b then y else s)) × (s ≤ℤ (if b then y else s))
    by_test true e = (grind (arith, ints), grind (arith, ints))
    by_test false e = (grind (arith, ints), grind (arith, ints))

min-below : (y s : ℤ) → (int_min y s ≤ℤ y) × (int_min y s ≤ℤ s)
min-below y s = by_test (int_lt s y) refl
  where
    by_test : (b : Bool) → int_lt s y ≡ b → ((if b then s else y) ≤ℤ y) × ((if b then s else y) ≤ℤ s)
    by_test true e = (grind (arith, ints), grind (arith, ints))
    by_test false e = (grind (arith, ints), grind (arith, ints))

above : (a y s : ℤ) → pos 0 ≤ℤ a → (y ≤ℤ extreme_of_two a y s) × (s ≤ℤ extreme_of_two a y s)
above a y s h = let is : int_le (pos 0) a ≡ true = grind (arith, ints) in rw is (max-above y s)

below : (a y s : ℤ) → a <ℤ pos 0 → (extreme_of_two a y s ≤ℤ y) × (extreme_of_two a y s ≤ℤ s)
below a y s h = let is : int_le (pos 0) a ≡ false = grind (arith, ints) in rw is (min-below y s)

pub extreme-above : (a y s : ℤ) → pos 0 ≤ℤ a → y ≤ℤ extreme_of_two a y s
extreme-above a y s h = (above a y s h).0

-- the extreme of a number and of what the inputs bring
abbrev extreme_from : ℤ → List ℤ → ℤ → List Input → ℤ
extreme_from a values z inputs = fold (λ z i. extreme_of_two a z (brought values i)) z inputs

from-above : (a : ℤ) (values : List ℤ) (z : ℤ) (inputs : List Input) → pos 0 ≤ℤ a → (z ≤ℤ extreme_from a values z inputs) × All (λ (i : Input). brought values i ≤ℤ extreme_from a values z inputs) inputs
from-above a values z [] h = (omega (arith, ints), λ k d there. absurd (omega (arith, there)))
from-above a values z (i ∷ inputs) h =
    let first = above a z (brought values i) h in
    let rest = from-above a values (extreme_of_two a z (brought values i)) inputs h in
    (omega (arith, ints, first.0, rest.0), All-cons (λ (j : Input). brought values j ≤ℤ extreme_from a values z (i ∷ inputs)) i inputs (omega (arith, ints, first.1, rest.0)) rest.1)

from-below : (a : ℤ) (values : List ℤ) (z : ℤ) (inputs : List Input) → a <ℤ pos 0 → (extreme_from a values z inputs ≤ℤ z) × All (λ (i : Input). extreme_from a values z inputs ≤ℤ brought values i) inputs
from-below a values z [] h = (omega (arith, ints), λ k d there. absurd (omega (arith, there)))
from-below a values z (i ∷ inputs) h =
    let first = below a z (brought values i) h in
    let rest = from-below a values (extreme_of_two a z (brought values i)) inputs h in
    (omega (arith, ints, first.0, rest.0), All-cons (λ (j : Input). extreme_from a values z (i ∷ inputs) ≤ℤ brought values j) i inputs (omega (arith, ints, first.1, rest.0)) rest.1)

-- no input brings more than the greatest
pub extreme-bounds : (a : ℤ) (values : List ℤ) (inputs : List Input) → pos 0 ≤ℤ a → All (λ (i : Input). brought values i ≤ℤ extreme a values inputs) inputs
extreme-bounds a values [] h = λ k d there. absurd (omega (arith, there))
extreme-bounds a values (i ∷ inputs) h =
    let from = from-above a values (brought values i) inputs h in
    All-cons (λ (j : Input). brought values j ≤ℤ extreme a values (i ∷ inputs)) i inputs from.0 from.1

-- nor less than the least
pub extreme-bounds_below : (a : ℤ) (values : List ℤ) (inputs : List Input) → a <ℤ pos 0 → All (λ (i : Input). extreme a values inputs ≤ℤ brought values i) inputs
extreme-bounds_below a values [] h = λ k d there. absurd (omega (arith, there))
extreme-bounds_below a values (i ∷ inputs) h =
    let from = from-below a values (brought values i) inputs h in
    All-cons (λ (j : Input). extreme a values (i ∷ inputs) ≤ℤ brought values j) i inputs from.0 from.1

one-of : (a x y : ℤ) → (extreme_of_two a x y ≡ x) ⊎ (extreme_of_two a x y ≡ y)
one-of a x y = by_tests (int_le (pos 0) a) (int_lt y x)
  where
    by_tests : (b c : Bool) → ((if b then (if c then x else y) else (if c then y else x)) ≡ x) ⊎ ((if b then (if c then x else y) else (if c then y else x)) ≡ y)
    by_tests true true = inl refl
    by_tests true false = inr refl
    by_tests false true = inr refl
    by_tests false false = inl refl

from-reached : (a : ℤ) (values : List ℤ) (z : ℤ) (inputs : List Input) → (extreme_from a values z inputs ≡ z) ⊎ Contains (map (brought values) inputs) (extreme_from a values z inputs)
from-reached a values z [] = inl refl
from-reached a values z (i ∷ inputs) = elim (from-reached a values (extreme_of_two a z (brought values i)) inputs) [
  | inl same ↦ elim (one-of a z (brought values i)) [
    | inl first ↦ inl (same ∙ first)
    | inr here ↦ inr (0, omega arith, sym (same ∙ here))
  ]
  | inr later ↦ inr (suc (later.0), omega (arith, later.1), later.2)
]

-- one input brings it
pub extreme-reached : (a : ℤ) (values : List ℤ) (inputs : List Input) → 0 < length inputs → Contains (map (brought values) inputs) (extreme a values inputs)
extreme-reached a values [] some = absurd (omega (arith, some))
extreme-reached a values (i ∷ inputs) some = elim (from-reached a values (brought values i) inputs) [
  | inl first ↦ (0, omega arith, sym first)
  | inr later ↦ (suc (later.0), omega (arith, later.1), later.2)
]
