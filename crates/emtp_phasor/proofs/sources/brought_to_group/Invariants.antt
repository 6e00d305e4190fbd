use Rattle.std.proofs.Common.{◌≡◌, ◌≤◌, ◌*◌, ◌^◌, take, unsigned_abs}
use Rattle.emtp_case.specs.Sums.{total}
use Rattle.emtp_phasor.specs.held.SteadyNetwork.{node_brought}
use Rattle.emtp_phasor.proofs.sources.brought_to_group.Given as goal

abbrev pub invariant-loop-member : goal.invariant-loop-member
invariant-loop-member l = record {
  sum_is : l.sum ≡ total (λ k. node_brought l.network l.imaginary k) (take l.member-index l.members);
  small : unsigned_abs l.sum ≤ l.member-index * 10 ^ 21;
}
