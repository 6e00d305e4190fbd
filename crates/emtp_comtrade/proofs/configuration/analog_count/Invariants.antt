use Rattle.std.proofs.Common.{◌≡◌, ◌≤◌}
use Rattle.emtp_comtrade.specs.Record.{analog_before}
use Rattle.emtp_comtrade.proofs.configuration.analog_count.Given as goal

abbrev pub invariant-loop-place : goal.invariant-loop-place
invariant-loop-place l = record {
  value : l.analog ≡ analog_before l.case.parts l.place;
  few : l.analog ≤ l.place;
}
