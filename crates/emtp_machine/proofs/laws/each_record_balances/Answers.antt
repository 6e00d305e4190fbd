use Rattle.emtp_machine.proofs.Chains.{balanced}
use Rattle.emtp_machine.proofs.laws.each_record_balances.Goals as goal

pub returns : goal.returns
returns c = balanced c.args.case.now.parts
