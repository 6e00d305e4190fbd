use Rattle.emtp_tacs.proofs.Runs.{none_redone}
use Rattle.emtp_tacs.proofs.laws.unmoved_redoes_nothing.Goals as goal

pub returns : goal.returns
returns c = λ r s past same. none_redone c.args.case.now.parts r s past same
