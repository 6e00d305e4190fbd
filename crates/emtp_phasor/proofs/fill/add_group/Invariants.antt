use Rattle.std.proofs.Common.{◌≡◌, ◌<◌, ◌/◌, ◌+ℤ◌, ℕ, length, take}
use Rattle.emtp_case.specs.Sums.{total}
use Rattle.emtp_elim.specs.Matrix.{item}
use Rattle.emtp_case.specs.NodeRows.{node_at}
use Rattle.emtp_admittance.specs.Admittances.{is_imaginary}
use Rattle.emtp_phasor.specs.Doubled.{admittance_entry}
use Rattle.emtp_phasor.proofs.fill.add_group.Given as goal

abbrev pub invariant-loop-member : goal.invariant-loop-member
invariant-loop-member l = record {
  same : length l.out ≡ length l.fn.out;
  value : (c : ℕ) → c < length l.out
      → item l.out c ≡ item l.fn.out c +ℤ total (λ k. admittance_entry l.network.case.now.parts l.network.ports.now l.imaginary (is_imaginary c) (node_at l.network.case.now.parts k) (node_at l.network.case.now.parts (c / 2))) (take l.member-index l.members);
}
