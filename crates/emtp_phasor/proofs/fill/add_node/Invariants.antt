use Rattle.std.proofs.Common.{◌≡◌, ◌<◌, ◌/◌, ◌+ℤ◌, ℕ, length, slice_get, take}
use Rattle.emtp_case.specs.Sums.{total}
use Rattle.emtp_elim.specs.Matrix.{item}
use Rattle.emtp_case.specs.NodeRows.{node_at}
use Rattle.emtp_admittance.specs.Admittances.{is_imaginary, port_at}
use Rattle.emtp_phasor.specs.Doubled.{between_nodes}
use Rattle.emtp_phasor.proofs.fill.add_node.Given as goal

abbrev pub invariant-loop-place : goal.invariant-loop-place
invariant-loop-place l = record {
  same : length l.out ≡ length l.fn.out;
  value : (c : ℕ) → c < length l.out
      → item l.out c ≡ item l.fn.out c +ℤ total (λ b. between_nodes l.imaginary (is_imaginary c) (port_at l.network.ports.now b) l.node (node_at l.network.case.now.parts (c / 2)) (slice_get l.network.case.now.parts.branches b)) (take l.place-index l.places);
}
