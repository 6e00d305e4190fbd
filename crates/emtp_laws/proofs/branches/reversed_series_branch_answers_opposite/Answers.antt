use Rattle.emtp_laws.proofs.ReversedSeries.{reversed_alike}
use Rattle.emtp_laws.proofs.branches.reversed_series_branch_answers_opposite.Goals as goal

pub returns : goal.returns
returns c = reversed_alike c.args.case.now.parts
