use Rattle.std.proofs.Common.{length, arith}
use Rattle.emtp_audit.specs.Cfg.{status_rule_at}
use Rattle.emtp_audit.proofs.LineWalks.{passes-next, stops-joined}
use Rattle.emtp_audit.proofs.cfg.walk_statuses.Goals as goal

pub returns-in-Err-clause-err : goal.returns-in-Err-clause-err
returns-in-Err-clause-err c =
    let p = c.args.case.now.parts in
    stops-joined c.args.lines.now c.loop-place.lines (status_rule_at p) c.loop-place.place (length p.channels) c.in-Err.differs (omega (arith, c.loop-place-test.true, c.len-place-end.ensures)) c.loop-place.invariant.passes c.in-Err.ensures.err

pub loop-place-preserved : goal.loop-place-preserved
loop-place-preserved c =
    let p = c.args.case.now.parts in
    record {
      passes = passes-next c.args.lines.now c.loop-place.lines c.walk_status_at.new.lines (status_rule_at p) c.loop-place.place c.loop-place.invariant.passes c.in-Ok.ensures.ok;
      status = c.in-Ok.ensures.status;
    }
