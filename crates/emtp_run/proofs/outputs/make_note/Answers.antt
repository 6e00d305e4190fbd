use Rattle.emtp_io.proofs.Making.{makes-one, makes-none}
use Rattle.emtp_run.proofs.outputs.make_note.Goals as goal

pub returns-in_err-create : goal.returns-in_err-create
returns-in_err-create g c =
    makes-none _ c.from_residual.result c.from_residual.ensures.0 c.in_err-create.ensures.call c.in_err-create.ensures.counted c.in_err-create.ensures.err c.in_err-create.ensures.calm

pub returns : goal.returns
returns g c = makes-one c.in_ok-create.ensures.call c.in_ok-create.ensures.counted c.in_ok-create.ensures.made c.in_ok-create.ensures.ok c.write_all.ensures
