use Rattle.emtp_fix.specs.declared.limit.TheConstants.{LARGEST_VALUE}
use Rattle.std.proofs.Common.{◌≡◌, ◌≤◌, ◌*◌, unsigned_abs, slice_get, take}
use Rattle.emtp_case.specs.Sums.{total}
use Rattle.emtp_admittance.specs.Admittances.{port_at}
use Rattle.emtp_phasor.specs.Steady.{leaving_through}
use Rattle.emtp_phasor.proofs.flow.leaving.Given as goal

abbrev pub invariant-loop-place : goal.invariant-loop-place
invariant-loop-place l = record {
  sum_is : l.sum ≡ total (λ b. leaving_through l.imaginary (port_at l.network.ports.now b) l.volts l.node (slice_get l.network.case.now.parts.branches b)) (take l.place-index l.places);
  small : unsigned_abs l.sum ≤ l.place-index * (2 * LARGEST_VALUE);
}
