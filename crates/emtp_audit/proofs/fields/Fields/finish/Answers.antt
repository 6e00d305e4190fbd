use Rattle.emtp_audit.proofs.Walking.{finds-extra}
use Rattle.emtp_audit.proofs.fields.Fields.finish.Goals as goal

pub returns-in-Ok : goal.returns-in-Ok
returns-in-Ok c = finds-extra c.args.self c.take.new.self c.in-Ok.field-0.now c.differs.result c.in-Ok.ensures.ok c.differs.ensures
