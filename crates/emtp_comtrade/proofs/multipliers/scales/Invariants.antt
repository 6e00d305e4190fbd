use Rattle.std.proofs.Common.{◌≡◌, length}
use Rattle.emtp_comtrade.specs.Record.{analog_before}
use Rattle.emtp_comtrade.specs.held.Record.{MultipliersBelow}
use Rattle.emtp_comtrade.proofs.multipliers.scales.Given as goal

abbrev pub invariant-loop-place : goal.invariant-loop-place
invariant-loop-place l = record {
  analog : l.analog ≡ analog_before l.case.parts l.place;
  entries : length l.multipliers ≡ 64;
  multipliers : MultipliersBelow l.case.parts l.samples.rows l.place l.multipliers;
}
