-- Rows redone and eliminated over the records of a run.
use Rattle.std.proofs.Common.{◌≡◌, ◌≢◌, ◌∙◌, ap, ℕ, ◌+◌, ◌-◌, ◌≤◌, ◌==◌, if◌then◌else◌, List, [], ◌∷◌, length, refl, false, arith}
use Rattle.std.proofs.lemmas.Bool.Decides.{nat_tests}
use Rattle.emtp_elim.specs.Matrix.{Matrix}
use Rattle.emtp_tail.proofs.Redoing.{first_change_none, first_change_same, first_change_within}
use Rattle.emtp_tail.specs.Good.{first_change}
use Rattle.emtp_tail.specs.Redone.{matrix_before, redone_next, redone_over, rows_next}
use Rattle.emtp_tail.specs.held.Redone.{rows_over}

-- after a step its matrix is the last one
pub matrix_before_is : {R : Type 0} (matrix : List R → Matrix) (H : List R) (made : ℕ) (r : R) → made + 1 ≡ length H → matrix_before matrix (r ∷ H) ≡ matrix H
matrix_before_is matrix [] made r long = absurd (omega (arith, long))
matrix_before_is matrix (s ∷ past) made r long = refl

pub rows_next_most : {R : Type 0} (size : ℕ) (matrix : List R → Matrix) (H : List R) → rows_next size matrix H ≤ size
unfolding rows_next
rows_next_most size matrix H = omega arith

-- the ticks of a step that redoes the rows from the first changed one on
pub rows_ticked : {R : Type 0} (size : ℕ) (matrix : List R → Matrix) (H : List R) (first before after : ℕ) → length (matrix H) ≡ size → first ≡ first_change (matrix_before matrix H) (matrix H) → after + first ≡ before + size
    → after ≡ before + rows_next size matrix H
unfolding rows_next
rows_ticked size matrix H first before after sized is ticked = omega (arith, ticked, is, sized, first_change_within (matrix_before matrix H) (matrix H))

rows_next_is : {R : Type 0} (size : ℕ) (matrix : List R → Matrix) (H : List R) (first : ℕ) → first ≡ first_change (matrix_before matrix H) (matrix H) → size - first ≡ rows_next size matrix H
unfolding rows_next
rows_next_is size matrix H first is = ap (λ n. size - n) is

-- and of one that stops at a row
pub rows_ticked_most : {R : Type 0} (size : ℕ) (matrix : List R → Matrix) (H : List R) (first before after : ℕ) → first ≡ first_change (matrix_before matrix H) (matrix H) → after ≤ before + (size - first)
    → after ≤ before + rows_next size matrix H
rows_ticked_most size matrix H first before after is ticked = omega (arith, ticked, rows_next_is size matrix H first is)

-- what the first step doesn't count
counted : {R : Type 0} (size : ℕ) (matrix : List R → Matrix) (H : List R) (made : ℕ) → made + 1 ≡ length H → (if made == 0 then 0 else rows_next size matrix H) ≡ redone_next size matrix H
counted size matrix [] made long = absurd (omega (arith, long))
counted size matrix (r ∷ []) made long =
    let first : made ≡ 0 = omega (arith, long) in
    rw first refl
counted size matrix (r ∷ s ∷ past) made long =
    let later : made ≢ 0 = λ e. omega (arith, long, e) in
    rw (isnt made later) refl
  where
    isnt : (n : ℕ) → n ≢ 0 → (n == 0) ≡ false
    isnt n ne = grind (arith, nat_tests)

-- the rows redone, counted from the first changed one on
pub rows_counted : {R : Type 0} (size : ℕ) (matrix : List R → Matrix) (H : List R) (first made before after : ℕ) → first ≡ first_change (matrix_before matrix H) (matrix H) → made + 1 ≡ length H
    → after ≡ before + (if made == 0 then 0 else size - first) → after ≡ before + redone_next size matrix H
rows_counted size matrix H first made before after is long count =
    count ∙ ap (λ n. before + (if made == 0 then 0 else n)) (rows_next_is size matrix H first is) ∙ ap (λ n. before + n) (counted size matrix H made long)

-- the first step eliminates all rows
first_step : {R : Type 0} (size : ℕ) (matrix : List R → Matrix) (r : R) → rows_next size matrix (r ∷ []) ≡ size
unfolding rows_next
first_step size matrix r = omega (arith, first_change_none (matrix (r ∷ [])))

-- once a step is made, the rows eliminated are those of one matrix and the rows redone
pub rows_of_run : {R : Type 0} (size : ℕ) (matrix : List R → Matrix) (r s : R) (past : List R) → rows_over size matrix (r ∷ s ∷ past) ≡ size + redone_over size matrix (r ∷ s ∷ past)
rows_of_run size matrix r s [] = omega (arith, first_step size matrix s)
rows_of_run size matrix r s (t ∷ past) = omega (arith, rows_of_run size matrix s t past)

-- the matrix of the step before redoes no row
pub none_redone : {R : Type 0} (size : ℕ) (matrix : List R → Matrix) (r s : R) (past : List R) → length (matrix (s ∷ past)) ≡ size → matrix (r ∷ s ∷ past) ≡ matrix (s ∷ past) → redone_next size matrix (r ∷ s ∷ past) ≡ 0
unfolding rows_next
none_redone size matrix r s past sized same =
    let rows : first_change (matrix (s ∷ past)) (matrix (r ∷ s ∷ past)) ≡ length (matrix (s ∷ past)) = ap (first_change (matrix (s ∷ past))) same ∙ first_change_same (matrix (s ∷ past)) in
    omega (arith, rows, sized)
