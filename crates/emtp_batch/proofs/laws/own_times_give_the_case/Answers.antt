use Rattle.emtp_batch.proofs.OwnTimes.{own_times_give}
use Rattle.emtp_batch.proofs.laws.own_times_give_the_case.Goals as goal

pub returns : goal.returns
returns c = own_times_give c.args.case.now.parts
