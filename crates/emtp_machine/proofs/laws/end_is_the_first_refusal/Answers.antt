use Rattle.emtp_machine.proofs.Chains.{ends_well}
use Rattle.emtp_machine.proofs.laws.end_is_the_first_refusal.Goals as goal

pub returns : goal.returns
returns c = ends_well c.args.case.now.parts c.args.case.now.parts.run.steps
