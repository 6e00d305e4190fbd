use Rattle.std.proofs.Common.{◌≡◌, length}
use Rattle.emtp_causes.specs.Parts.{field_rest}
use Rattle.emtp_causes.proofs.parts.field_rest.Given as goal

-- the field of the line is that of the rest
abbrev pub invariant-loop-rest : goal.invariant-loop-rest
invariant-loop-rest l = field_rest l.left l.rest ≡ field_rest l.number l.line

abbrev pub decreases-loop-rest : goal.decreases-loop-rest
decreases-loop-rest l = length l.rest
