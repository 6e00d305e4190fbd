-- How an elimination ends, as a function of the matrix and the right side: with the solution, or with the first fault
-- in this order. The least faulty row of the matrix, out of range before a zero pivot; the least row whose right side
-- leaves its range; the last row whose unknown does.
use Rattle.std.specs.Prelude.{ℕ, zero, suc, ℤ, List, length, Option, Some, None, Result, Ok}
use Rattle.emtp_fix.specs.Chain.{unless}
use Rattle.emtp_elim.specs.Matrix.{Matrix}
use Rattle.emtp_elim.specs.Elimination.{solution}
use Rattle.emtp_elim.specs.Fault.{right_fault, row_fault, unknown_fault}
use Rattle.emtp_elim.specs.declared.fault.PlainFault.{PlainFault}
use Rattle.emtp_elim.specs.declared.fault.PlainFault.TheVariants.{Row, Solve}

-- the first of two values that is there
abbrev pub or_else : {X : Type 0} → Option X → Option X → Option X
or_else None y = y
or_else (Some x) y = Some x

-- what f gives for the least number below n for which it gives something
abbrev pub first_below : {X : Type 0} → ℕ → (ℕ → Option X) → Option X
first_below zero f = None
first_below (suc n) f = or_else (first_below n f) (f n)

-- what f gives for the greatest number below n for which it gives something
abbrev pub last_below : {X : Type 0} → ℕ → (ℕ → Option X) → Option X
last_below zero f = None
last_below (suc n) f = or_else (f n) (last_below n f)

-- how the elimination of a matrix with a right side ends
unfoldable pub outcome : Matrix → List ℤ → Result (List ℤ) PlainFault
outcome rows right =
    unless (first_below (length rows) (row_fault rows)) Row
    (unless (first_below (length rows) (right_fault rows right)) Solve
    (unless (last_below (length rows) (unknown_fault rows right)) Solve
    (Ok (solution rows right))))
