use Rattle.std.proofs.Common.{◌≡◌}
use Rattle.emtp_comtrade.specs.Record.{joined, status_before}
use Rattle.emtp_audit.specs.Cfg.{status_rule_at}
use Rattle.emtp_audit.specs.held.Walk.{Passes}
use Rattle.emtp_audit.proofs.cfg.walk_statuses.Given as goal

abbrev pub invariant-loop-place : goal.invariant-loop-place
invariant-loop-place l = record {
  passes : Passes l.fn.lines l.lines (joined l.place (status_rule_at l.case.parts));
  status : l.status ≡ status_before l.case.parts l.place;
}
