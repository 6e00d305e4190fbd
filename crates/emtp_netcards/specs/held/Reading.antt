-- Beside `Reading`: what values hold for their proofs, and what premises say. No clause of the program reaches it.
use Rattle.std.specs.Prelude.{Result}
use Rattle.emtp_card.specs.declared.fault.Fault.{Fault}
use Rattle.emtp_netcards.specs.Reading.{◌>>=◌}

-- a rule over what was read, in clauses of calls that take a reading
abbrev pub judged : {A B : Type 0} → Result A Fault → (A → Result B Fault) → Result B Fault
judged read rule = read >>= rule
