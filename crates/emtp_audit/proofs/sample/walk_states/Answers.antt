use Rattle.std.proofs.Common.{length, arith}
use Rattle.emtp_audit.specs.Dat.{state_rule_at}
use Rattle.emtp_audit.proofs.Walking.{walks-end}
use Rattle.emtp_audit.proofs.sample.walk_states.Goals as goal

pub returns-in-Err-clause-walks : goal.returns-in-Err-clause-walks
returns-in-Err-clause-walks c =
    let p = c.args.audited.now.case.now.parts in
    walks-end c.args.fields.now c.loop-place.fields (state_rule_at p c.args.audited.now.samples.now.rows c.args.sample) c.loop-place.place (length p.channels) c.in-Err.differs
    (omega (arith, c.loop-place-test.true, c.len-place-end.ensures)) c.loop-place.invariant.walks c.in-Err.ensures.walks
