use Rattle.std.proofs.Common.{◌≡◌}
use Rattle.emtp_phasor.specs.held.HeldBranches.{branches_below}
use Rattle.emtp_phasor.proofs.node_branches.branches_at.Given as goal

abbrev pub invariant-loop-at : goal.invariant-loop-at
invariant-loop-at l = l.places.items ≡ branches_below l.case.parts l.node l.at
