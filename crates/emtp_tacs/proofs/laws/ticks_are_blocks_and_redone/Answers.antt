use Rattle.emtp_tacs.proofs.Runs.{ticks_of_run}
use Rattle.emtp_tacs.proofs.laws.ticks_are_blocks_and_redone.Goals as goal

pub returns : goal.returns
returns c = λ r s past. ticks_of_run c.args.case.now.parts r s past
