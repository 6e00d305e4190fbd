use Rattle.emtp_net.proofs.Runs.{none_redone}
use Rattle.emtp_net.proofs.laws.unchanged_redoes_nothing.Goals as goal

pub returns : goal.returns
returns c = λ r s past own kinds. none_redone c.args.case.now.parts r s past own kinds
