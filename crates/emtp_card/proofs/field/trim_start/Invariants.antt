use Rattle.std.proofs.Common.{◌≡◌, ◌≤◌, length}
use Rattle.emtp_card.specs.Field.{without_leading}
use Rattle.emtp_card.proofs.field.trim_start.Given as goal

abbrev pub invariant-loop-rest : goal.invariant-loop-rest
invariant-loop-rest l = record {
  same : without_leading l.rest ≡ without_leading l.text;
  short : length l.rest ≤ length l.text;
}

abbrev pub decreases-loop-rest : goal.decreases-loop-rest
decreases-loop-rest l = length l.rest
