use Rattle.emtp_audit.specs.held.Check.{rule_of}
use Rattle.emtp_audit.proofs.Walking.{walks-one}
use Rattle.emtp_audit.proofs.check.walk_check.Goals as goal

pub returns-clause-walks : goal.returns-clause-walks
returns-clause-walks c =
    walks-one c.args.fields.now c.take.new.self c.in_ok-field.field.now (rule_of c.args.check.now) c.cause.result c.judge.result c.in_ok-field.ensures.ok c.cause.ensures c.judge.ensures
