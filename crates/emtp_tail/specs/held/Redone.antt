-- Beside `Redone`: what values hold for their proofs, and what premises say. No clause of the program reaches it.
use Rattle.std.specs.Prelude.{ℕ, ◌+◌, List, [], ◌∷◌}
use Rattle.emtp_elim.specs.Matrix.{Matrix}
use Rattle.emtp_tail.specs.Redone.{rows_next}

-- the rows that the step after the records eliminates; no step makes record 0
abbrev pub rows_after : {R : Type 0} → ℕ → (List R → Matrix) → List R → ℕ
rows_after size matrix [] = 0
rows_after size matrix (s ∷ past) = rows_next size matrix (s ∷ past)

-- the rows that the steps that made the records eliminated: the first step's count too
abbrev pub rows_over : {R : Type 0} → ℕ → (List R → Matrix) → List R → ℕ
rows_over size matrix [] = 0
rows_over size matrix (r ∷ past) = rows_over size matrix past + rows_after size matrix past
