use Rattle.emtp_lumped.proofs.Chain.{resistor_forgets}
use Rattle.emtp_lumped.proofs.laws.resistor_forgets.Goals as goal

pub returns : goal.returns
returns c = resistor_forgets c.args.companion.now c.args.old.now c.args.v c.requires.resistor c.requires.old
