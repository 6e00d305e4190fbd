use Rattle.std.proofs.Common.{◌≡◌, ◌<◌, ◌≤◌, ◌/◌, ◌^◌, ℕ, unsigned_abs}
use Rattle.emtp_elim.specs.Matrix.{item}
use Rattle.emtp_case.specs.NodeRows.{node_at}
use Rattle.emtp_admittance.specs.Admittances.{is_imaginary}
use Rattle.emtp_phasor.specs.Volts.{source_phasors_into}
use Rattle.emtp_phasor.proofs.sources.fill_brought.Given as goal

abbrev pub invariant-loop-row : goal.invariant-loop-row
invariant-loop-row l = record {
  each : (k : ℕ) → k < l.row → item l.out k ≡ source_phasors_into l.case.parts (is_imaginary k) (node_at l.case.parts (k / 2));
  small : (k : ℕ) → k < l.row → unsigned_abs (item l.out k) ≤ 10 ^ 21;
}
