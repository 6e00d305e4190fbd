use Rattle.std.proofs.Common.{ap, Some, Err}
use Rattle.emtp_audit.specs.Cfg.{is_read, scale_rule}
use Rattle.emtp_audit.specs.declared.differs.DifferCause.TheVariants.{NotNumber}
use Rattle.emtp_audit.proofs.Walking.{walks-one}
use Rattle.emtp_audit.proofs.cfg_lines.read_scale_number.Goals as goal

pub returns-in-None-clause-walks : goal.returns-in-None-clause-walks
returns-in-None-clause-walks c =
    walks-one c.args.fields.now c.take.new.self c.in-Ok.field.now scale_rule (Some NotNumber) (Err c.differs.result) c.in-Ok.ensures.ok (ap is_read c.in-None.ensures.value) c.differs.ensures
