use Rattle.std.proofs.Common.{◌≡◌, length}
use Rattle.std.specs.Prelude.{true}
use Rattle.emtp_causes.specs.Parts.{item_rest}
use Rattle.emtp_causes.proofs.parts.item_rest.Given as goal

-- the item of the row is that of the rest
abbrev pub invariant-loop-rest : goal.invariant-loop-rest
invariant-loop-rest l = item_rest l.left l.blank l.rest ≡ item_rest l.number true l.row

abbrev pub decreases-loop-rest : goal.decreases-loop-rest
decreases-loop-rest l = length l.rest
