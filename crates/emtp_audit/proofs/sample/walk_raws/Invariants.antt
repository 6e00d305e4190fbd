use Rattle.std.proofs.Common.{◌≡◌, ◌+◌, ◌≤◌, Ok}
use Rattle.emtp_comtrade.specs.Record.{analog_before}
use Rattle.emtp_comtrade.specs.Record.{joined}
use Rattle.emtp_audit.specs.Dat.{scales_of, raw_rule_at}
use Rattle.emtp_audit.specs.held.Walk.{Walks}
use Rattle.emtp_audit.proofs.sample.walk_raws.Given as goal

abbrev pub invariant-loop-place : goal.invariant-loop-place
invariant-loop-place l = record {
  analog : l.analog ≡ analog_before l.audited.case.now.parts l.place;
  walks : Walks (Ok (tt {0})) l.fn.fields l.fields (joined l.place (raw_rule_at l.audited.case.now.parts l.audited.samples.now.rows (scales_of l.audited.cfg.now.scales.items l.audited.cfg.now.multiplier) l.sample));
  next : l.fields.number ≤ l.fn.fields.number + l.place;
}
