-- Each variable is defined once, where the cards number their variables one after another.
use Rattle.emtp_case.specs.held.Case.{DefinesEach, defined_vars}
use Rattle.emtp_case.specs.held.Control.{var_of}
use Rattle.emtp_case.specs.declared.case.Parts.{Parts}
use Rattle.emtp_case.specs.declared.control.Block.{Block}
use Rattle.emtp_case.specs.declared.source.Source.{Source}
use Rattle.std.proofs.Common.{arith, ◌∙◌, ap, inl, inr, refl}
use Rattle.std.proofs.lemmas.Bool.{cases_eq, eq-eqb, ne_eqb}
use Rattle.std.proofs.lemmas.List.Sums.{sum_by-cons}
use Rattle.std.specs.List.{range_with_len}
use Rattle.std.specs.Prelude.{◌≡◌, ◌≢◌, ◌+◌, ◌<◌, ◌≤◌, ◌==◌, ◌∷◌, ◌++◌, map, if◌then◌else◌, Bool, count_by, length, List, suc, zero, ℕ}

-- how often a number stands in a list
abbrev times_in : ℕ → List ℕ → ℕ
times_in v xs = count_by (λ d. d == v) xs

times_in-same : (v : ℕ) (xs : List ℕ) → times_in v (v ∷ xs) ≡ 1 + times_in v xs
times_in-same v xs = sum_by-cons (λ d. if d == v then 1 else 0) v xs ∙ ap (λ (b : Bool). (if b then 1 else 0) + times_in v xs) (eq-eqb v v refl)

times_in-other : (v x : ℕ) (xs : List ℕ) → x ≢ v → times_in v (x ∷ xs) ≡ times_in v xs
times_in-other v x xs other =
    let one = sum_by-cons (λ d. if d == v then 1 else 0) x xs ∙ ap (λ (b : Bool). (if b then 1 else 0) + times_in v xs) (ne_eqb x v other) in
    omega (arith, one)

before_row : (n a v : ℕ) → v < a → times_in v (range_with_len a n) ≡ 0
before_row zero a v h = refl
before_row (suc n) a v h = times_in-other v a (range_with_len (a + 1) n) (omega arith) ∙ before_row n (a + 1) v (omega arith)

pub once_in_row : (n a v : ℕ) → a ≤ v → v < a + n → times_in v (range_with_len a n) ≡ 1
once_in_row zero a v low high = absurd (omega arith)
once_in_row (suc n) a v low high = elim (cases_eq a v) [
  | inl here ↦ rw here (times_in-same v (range_with_len (v + 1) n) ∙ ap (λ k. 1 + k) (before_row n (v + 1) v (omega arith)))
  | inr later ↦ times_in-other v a (range_with_len (a + 1) n) later ∙ once_in_row n (a + 1) v (omega arith) (omega arith)
]

-- the TACS sources, the blocks and the supplemental cards define the variables from 6 on, one after another
pub defined_in_row : (p : Parts) (count : ℕ) → 6 + count ≡ length p.vars → defined_vars p ≡ range_with_len 6 count → DefinesEach p
defined_in_row p count size row = λ v low high. ap (times_in v) row ∙ once_in_row count 6 v low (omega arith)

range-append : (a m n : ℕ) → range_with_len a m ++ range_with_len (a + m) n ≡ range_with_len a (m + n)
range-append a zero n =
    let here : a + 0 ≡ a = omega arith in
    let none : 0 + n ≡ n = omega arith in
    rw (here, none) refl
range-append a (suc m) n =
    let next : a + suc m ≡ (a + 1) + m = omega arith in
    let more : suc m + n ≡ suc (m + n) = omega arith in
    rw (next, more) (ap (λ (xs : List ℕ). a ∷ xs) (range-append (a + 1) m n))

-- the same kind by kind
pub defined_in_three : (p : Parts) (sources blocks extras : ℕ) → map (λ (s : Source). s.node) p.tacs_sources ≡ range_with_len 6 sources → map (λ (b : Block). b.var) p.blocks ≡ range_with_len (6 + sources) blocks
    → map var_of p.extras ≡ range_with_len (6 + (sources + blocks)) extras → 6 + (sources + blocks + extras) ≡ length p.vars → DefinesEach p
defined_in_three p sources blocks extras s b x size =
    let row : defined_vars p ≡ range_with_len 6 (sources + blocks + extras) =
    rw (s, b, x) (ap (λ (xs : List ℕ). xs ++ range_with_len (6 + (sources + blocks)) extras) (range-append 6 sources blocks) ∙ range-append 6 (sources + blocks) extras) in
    defined_in_row p (sources + blocks + extras) size row
