use Rattle.std.proofs.Common.{◌≡◌, length}
use Rattle.emtp_causes.specs.Parts.{skipped}
use Rattle.emtp_causes.proofs.parts.skipped.Given as goal

abbrev pub invariant-loop-rest : goal.invariant-loop-rest
invariant-loop-rest l = skipped l.rest ≡ skipped l.text

abbrev pub decreases-loop-rest : goal.decreases-loop-rest
decreases-loop-rest l = length l.rest
