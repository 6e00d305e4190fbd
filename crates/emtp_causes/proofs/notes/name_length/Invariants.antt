use Rattle.std.proofs.Common.{◌≡◌, ◌+◌, length}
use Rattle.emtp_causes.specs.Notes.{name_length}
use Rattle.emtp_causes.proofs.notes.name_length.Given as goal

-- what is left and what was counted
abbrev pub invariant-loop-rest : goal.invariant-loop-rest
invariant-loop-rest l = (l.count + name_length l.rest ≡ name_length l.text) × (l.count + length l.rest ≡ length l.text)

abbrev pub decreases-loop-rest : goal.decreases-loop-rest
decreases-loop-rest l = length l.rest
