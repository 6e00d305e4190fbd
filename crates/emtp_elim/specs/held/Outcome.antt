-- Beside `Outcome`: what values hold for their proofs, and what premises say. No clause of the program reaches it.
use Rattle.std.specs.Prelude.{◌≡◌, ⊤, ℕ, ◌<◌, ℤ, List, Result, Ok, Err}
use Rattle.emtp_elim.specs.held.Matrix.{opposites}
use Rattle.emtp_elim.specs.declared.fault.PlainFault.{PlainFault}
use Rattle.emtp_elim.specs.declared.fault.PlainFault.TheVariants.{Row, Solve, NoMemory}

-- the same end for the opposite unknowns: a fault stays
abbrev pub opposite_end : Result (List ℤ) PlainFault → Result (List ℤ) PlainFault
opposite_end (Ok x) = Ok (opposites x)
opposite_end (Err fault) = Err fault

-- the elimination ends in this fault, or the fault is that there was no memory for it
abbrev pub EndsInFault : Result (List ℤ) PlainFault → PlainFault → Type 0
EndsInFault end (Row fault) = end ≡ Err (Row fault)
EndsInFault end (Solve fault) = end ≡ Err (Solve fault)
EndsInFault end NoMemory = ⊤

-- the fault names one of n rows, or is the want of memory
abbrev pub HasRow : ℕ → PlainFault → Type 0
HasRow n (Row fault) = fault.row < n
HasRow n (Solve fault) = fault.row < n
HasRow n NoMemory = ⊤
