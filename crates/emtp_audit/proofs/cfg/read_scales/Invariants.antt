use Rattle.std.proofs.Common.{◌≡◌}
use Rattle.std.specs.Prelude.{All}
use Rattle.emtp_comtrade.specs.Record.{joined, analog_before}
use Rattle.emtp_audit.specs.Cfg.{analog_rule_at}
use Rattle.emtp_audit.specs.held.Cfg.{analog_scales_on}
use Rattle.emtp_audit.specs.held.Dat.{IsScale}
use Rattle.emtp_audit.specs.held.Walk.{Passes}
use Rattle.emtp_audit.proofs.cfg.read_scales.Given as goal

abbrev pub invariant-loop-place : goal.invariant-loop-place
invariant-loop-place l = record {
  passes : Passes l.fn.lines l.lines (joined l.place (analog_rule_at l.case.parts));
  scales : l.scales.items ≡ analog_scales_on (analog_before l.case.parts l.place) l.fn.lines.lines;
  are : All IsScale l.scales.items;
}
