-- How an elimination ends, from the faults of its rows, right sides and unknowns.
use Rattle.std.proofs.Common.{◌≡◌, ℕ, zero, suc, ◌<◌, ℤ, List, length, Option, Some, None, Ok, Err, refl, ap, subst, sym, ◌∙◌, pos, inl, inr, arith}
use Rattle.std.proofs.lemmas.Bool.{cases_eq, cases_lt}
use Rattle.std.proofs.lemmas.List.{get_or_past}
use Rattle.emtp_fix.specs.declared.limit.TheConstants.{LARGEST_VALUE}
use Rattle.emtp_fix.proofs.Chaining.{unless_ok}
use Rattle.emtp_elim.specs.Matrix.{Matrix}
use Rattle.emtp_elim.specs.held.Matrix.{AreWithin}
use Rattle.emtp_elim.specs.Elimination.{solution, stage, stage_right}
use Rattle.emtp_elim.specs.Fault.{right_fault, row_fault, unknown_fault}
use Rattle.emtp_elim.specs.held.Fault.{IsGoodMatrix, IsGoodRight, IsRightFault, IsRowFault}
use Rattle.emtp_elim.specs.Outcome.{first_below, last_below, or_else, outcome}
use Rattle.emtp_elim.specs.declared.fault.PlainFault.TheVariants.{Row, Solve}
use Rattle.emtp_elim.specs.declared.fault.RowCause.{RowCause}
use Rattle.emtp_elim.proofs.InRange.{unknown_fault-small}
use Rattle.emtp_elim.proofs.Unknowns.{length-last_unknowns}

-- ---- searches below a number

first_below-none : {X : Type 0} (n : ℕ) (f : ℕ → Option X) → ((k : ℕ) → k < n → f k ≡ None) → first_below n f ≡ None
first_below-none zero f none = refl
first_below-none (suc n) f none = rw (first_below-none n f (λ k h. none k (omega arith))) (none n (omega arith))

first_below-some : {X : Type 0} (n : ℕ) (f : ℕ → Option X) (i : ℕ) (x : X) → i < n → ((h : ℕ) → h < i → f h ≡ None) → f i ≡ Some x
    → first_below n f ≡ Some x
first_below-some zero f i x below earlier here = absurd (omega arith)
first_below-some (suc n) f i x below earlier here = elim (cases_eq i n) [
  | inl last ↦ rw (first_below-none n f (λ k h. earlier k (omega arith))) (ap f (sym last) ∙ here)
  | inr other ↦ rw (first_below-some n f i x (omega arith) earlier here) refl
]

last_below-none : {X : Type 0} (n : ℕ) (f : ℕ → Option X) → ((k : ℕ) → k < n → f k ≡ None) → last_below n f ≡ None
last_below-none zero f none = refl
last_below-none (suc n) f none = rw (none n (omega arith)) (last_below-none n f (λ k h. none k (omega arith)))

last_below-some : {X : Type 0} (n : ℕ) (f : ℕ → Option X) (i : ℕ) (x : X) → i < n → ((h : ℕ) → i < h → h < n → f h ≡ None) → f i ≡ Some x
    → last_below n f ≡ Some x
last_below-some zero f i x below later here = absurd (omega arith)
last_below-some (suc n) f i x below later here = elim (cases_eq i n) [
  | inl last ↦ rw (ap f (sym last) ∙ here) refl
  | inr other ↦ rw (later n (omega arith) (omega arith)) (last_below-some n f i x (omega arith) (λ h low high. later h low (omega arith)) here)
]

-- ---- outcomes

no_row_fault : (rows : Matrix) → IsGoodMatrix rows → first_below (length rows) (row_fault rows) ≡ None
no_row_fault rows good = first_below-none (length rows) _ good.each

pub outcome_row : (rows : Matrix) (right : List ℤ) (i : ℕ) (cause : RowCause) → IsRowFault rows i cause
    → outcome rows right ≡ Err (Row (record { row = i; cause = cause }))
unfolding outcome
outcome_row rows right i cause fault = rw (first_below-some (length rows) (row_fault rows) i _ fault.within fault.earlier fault.is) refl

pub outcome_right : (rows : Matrix) (right : List ℤ) (i : ℕ) → IsGoodMatrix rows → IsRightFault rows right i
    → outcome rows right ≡ Err (Solve (record { row = i }))
unfolding outcome
outcome_right rows right i good fault =
    rw (no_row_fault rows good, first_below-some (length rows) (right_fault rows right) i _ fault.within fault.earlier fault.is) refl

-- no right side leaves its range, and row i is the last one whose unknown does
pub record IsUnknownFault (rows : Matrix) (right : List ℤ) (i : ℕ) : Type 0 where
  pub within : i < length rows
  pub right_sides : (h : ℕ) → h < length rows → IsGoodRight rows right h
  pub later : (h : ℕ) → i < h → h < length rows → unknown_fault rows right h ≡ None
  pub is : unknown_fault rows right i ≡ Some (record { row = i })

pub outcome_unknown : (rows : Matrix) (right : List ℤ) (i : ℕ) → IsGoodMatrix rows → IsUnknownFault rows right i
    → outcome rows right ≡ Err (Solve (record { row = i }))
unfolding outcome
outcome_unknown rows right i good fault =
    rw (
      no_row_fault rows good,
      first_below-none (length rows) (right_fault rows right) fault.right_sides,
      last_below-some (length rows) (unknown_fault rows right) i _ fault.within fault.later fault.is,
    ) refl

pub outcome_solved : (rows : Matrix) (right : List ℤ) → IsGoodMatrix rows → ((i : ℕ) → i < length rows → IsGoodRight rows right i)
    → ((i : ℕ) → i < length rows → unknown_fault rows right i ≡ None) → outcome rows right ≡ Ok (solution rows right)
unfolding outcome
outcome_solved rows right good fine small =
    rw (no_row_fault rows good, first_below-none (length rows) (right_fault rows right) fine, last_below-none (length rows) (unknown_fault rows right) small) refl

-- ---- the unknowns of a system without a fault are in range

last_below-each : {X : Type 0} (n : ℕ) (f : ℕ → Option X) (k : ℕ) → k < n → last_below n f ≡ None → f k ≡ None
last_below-each {X = X} zero f k below none = absurd (omega arith)
last_below-each {X = X} (suc n) f k below none = by (f n) refl none (last_below-each n f k)
  where
    by : (o : Option X) → f n ≡ o → or_else o (last_below n f) ≡ None → (k < n → last_below n f ≡ None → f k ≡ None) → f k ≡ None
    by (Some x) here rest earlier = absurd (cc)
    by None here rest earlier = elim (cases_eq k n) [
      | inl last ↦ ap f last ∙ here
      | inr other ↦ earlier (omega arith) rest
    ]

solution_small : (rows : Matrix) (right : List ℤ) → last_below (length rows) (unknown_fault rows right) ≡ None → AreWithin LARGEST_VALUE (solution rows right)
solution_small rows right none i = elim (cases_lt i (length rows)) [
  | inl inside ↦ unknown_fault-small rows right i (last_below-each (length rows) (unknown_fault rows right) i inside none)
  | inr past ↦
      let count = length-last_unknowns (stage rows (length rows)) (stage_right rows right (length rows)) (length rows) in
      rw (get_or_past (solution rows right) i (pos 0) (omega (arith, past, count))) (omega arith)
]

pub outcome_small : (rows : Matrix) (right x : List ℤ) → outcome rows right ≡ Ok x → AreWithin LARGEST_VALUE x
unfolding outcome
outcome_small rows right x is =
    let first = unless_ok (first_below (length rows) (row_fault rows)) Row _ x is in
    let second = unless_ok (first_below (length rows) (right_fault rows right)) Solve _ x first.1 in
    let third = unless_ok (last_below (length rows) (unknown_fault rows right)) Solve (Ok (solution rows right)) x second.1 in
    let same : solution rows right ≡ x = cc in
    subst (AreWithin LARGEST_VALUE) same (solution_small rows right third.0)
