use Rattle.std.proofs.Common.{◌≡◌, map}
use Rattle.std.specs.List.{range_with_len}
use Rattle.emtp_phasor.specs.held.HeldGroups.{members_of}
use Rattle.emtp_phasor.proofs.groups.members_by_row.Given as goal

abbrev pub invariant-loop-row : goal.invariant-loop-row
invariant-loop-row l = l.rows.items ≡ map (λ i. members_of l.kinds i) (range_with_len 0 l.row)
