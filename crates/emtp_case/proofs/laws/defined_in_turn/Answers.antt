use Rattle.emtp_case.proofs.Defined.{defined_in_three}
use Rattle.emtp_case.proofs.laws.defined_in_turn.Goals as goal

pub returns : goal.returns
returns c = defined_in_three c.args.parts.now
