use Rattle.std.proofs.Common.{◌≡◌, ◌<◌, ◌+◌, ℕ}
use Rattle.emtp_case.specs.NodeRows.{row_at}
use Rattle.emtp_phasor.specs.Volts.{nothing, volt_at, volt_in}
use Rattle.emtp_phasor.proofs.voltages.fill_volts.Given as goal

abbrev pub invariant-loop-at : goal.invariant-loop-at
invariant-loop-at l = record {
  ground : volt_at l.out 0 ≡ nothing;
  each : (k : ℕ) → k < l.at → volt_at l.out (k + 1) ≡ volt_in l.x (row_at l.case.parts (k + 1));
}
