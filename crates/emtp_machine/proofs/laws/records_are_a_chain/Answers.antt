use Rattle.emtp_machine.proofs.Chains.{chain}
use Rattle.emtp_machine.proofs.laws.records_are_a_chain.Goals as goal

pub returns : goal.returns
returns c = chain c.args.case.now.parts
