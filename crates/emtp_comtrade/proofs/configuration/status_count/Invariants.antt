use Rattle.std.proofs.Common.{◌≡◌, ◌≤◌}
use Rattle.emtp_comtrade.specs.Record.{status_before}
use Rattle.emtp_comtrade.proofs.configuration.status_count.Given as goal

abbrev pub invariant-loop-place : goal.invariant-loop-place
invariant-loop-place l = record {
  value : l.status ≡ status_before l.case.parts l.place;
  few : l.status ≤ l.place;
}
