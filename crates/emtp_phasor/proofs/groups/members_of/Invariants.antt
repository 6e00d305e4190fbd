use Rattle.std.proofs.Common.{◌≡◌}
use Rattle.emtp_phasor.specs.held.HeldGroups.{members_below}
use Rattle.emtp_phasor.proofs.groups.members_of.Given as goal

abbrev pub invariant-loop-at : goal.invariant-loop-at
invariant-loop-at l = l.members.items ≡ members_below l.kinds l.i l.at
