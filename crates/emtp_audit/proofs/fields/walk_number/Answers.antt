use Rattle.std.proofs.Common.{pos}
use Rattle.emtp_audit.specs.Rules.{number_is}
use Rattle.emtp_audit.proofs.Walking.{walks-one}
use Rattle.emtp_audit.proofs.fields.walk_number.Goals as goal

pub returns-clause-walks : goal.returns-clause-walks
returns-clause-walks c =
    walks-one c.args.fields.now c.take.new.self c.in_ok-field.field.now (number_is (pos c.args.number)) c.number_cause.result c.judge.result c.in_ok-field.ensures.ok c.number_cause.ensures c.judge.ensures
