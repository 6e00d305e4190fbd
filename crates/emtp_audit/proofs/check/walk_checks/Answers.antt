use Rattle.emtp_audit.proofs.Checking.{checks-stop}
use Rattle.emtp_audit.proofs.check.walk_checks.Goals as goal

pub returns-in-Err-clause-walks : goal.returns-in-Err-clause-walks
returns-in-Err-clause-walks c =
    checks-stop c.args.fields.now c.loop-check.fields c.args.checks.now c.loop-check.check-index _ c.in-Err.differs c.loop-check-test.true c.loop-check.invariant.walks c.in-Err.ensures.walks
