use Rattle.std.proofs.Common.{◌+◌, ◌≤◌, Ok}
use Rattle.emtp_comtrade.specs.Record.{joined}
use Rattle.emtp_audit.specs.Dat.{state_rule_at}
use Rattle.emtp_audit.specs.held.Walk.{Walks}
use Rattle.emtp_audit.proofs.sample.walk_states.Given as goal

abbrev pub invariant-loop-place : goal.invariant-loop-place
invariant-loop-place l = record {
  walks : Walks (Ok (tt {0})) l.fn.fields l.fields (joined l.place (state_rule_at l.audited.case.now.parts l.audited.samples.now.rows l.sample));
  next : l.fields.number ≤ l.fn.fields.number + l.place;
}
