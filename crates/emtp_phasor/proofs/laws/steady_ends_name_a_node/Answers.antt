use Rattle.emtp_phasor.proofs.NamedNodes.{ends_named}
use Rattle.emtp_phasor.proofs.laws.steady_ends_name_a_node.Goals as goal

pub returns : goal.returns
returns c = λ freq. ends_named c.args.case.now.parts freq c.args.case.now.fits
