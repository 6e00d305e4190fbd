use Rattle.std.proofs.Common.{◌∙◌, ap, length, arith}
use Rattle.emtp_comtrade.specs.Record.{analog_before, joined}
use Rattle.emtp_audit.specs.Cfg.{analog_rule_at, scale_on, file_line}
use Rattle.emtp_audit.specs.held.Walk.{StopsAt}
use Rattle.emtp_audit.proofs.Answering.{on_differs}
use Rattle.emtp_audit.proofs.CfgPlaces.{scales-next}
use Rattle.emtp_audit.proofs.Joined.{length-joined}
use Rattle.emtp_audit.proofs.LineWalks.{passes-next, stops-joined}
use Rattle.emtp_audit.proofs.cfg.read_scales.Goals as goal

pub push_scale-requires-clause-analog : goal.push_scale-requires-clause-analog
push_scale-requires-clause-analog c =
    ap length c.loop-place.invariant.scales ∙ length-joined (λ number. scale_on (file_line c.args.lines.now.lines number)) (analog_before c.args.case.now.parts c.loop-place.place)

pub returns-in-Err-clause-err : goal.returns-in-Err-clause-err
returns-in-Err-clause-err c =
    let p = c.args.case.now.parts in
    on_differs c.in-Err.fault (StopsAt c.loop-place.lines (analog_rule_at p c.loop-place.place)) (StopsAt c.args.lines.now (joined (length p.channels) (analog_rule_at p)))
    (λ differs stop. stops-joined c.args.lines.now c.loop-place.lines (analog_rule_at p) c.loop-place.place (length p.channels) differs (omega (arith, c.loop-place-test.true, c.len-place-end.ensures)) c.loop-place.invariant.passes stop)
    c.in-Err.ensures.err

pub loop-place-preserved : goal.loop-place-preserved
loop-place-preserved c =
    let p = c.args.case.now.parts in
    record {
      passes = passes-next c.args.lines.now c.loop-place.lines c.push_scale.new.lines (analog_rule_at p) c.loop-place.place c.loop-place.invariant.passes c.in-Ok.ensures.ok;
      scales = c.in-Ok.ensures.scales ∙ scales-next p c.loop-place.place c.args.lines.now.lines c.loop-place.lines.lines c.loop-place.scales.items c.loop-place.invariant.scales c.loop-place.invariant.passes.behind;
      are = c.in-Ok.ensures.are;
    }
