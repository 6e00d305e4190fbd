use Rattle.std.proofs.Common.{◌∙◌, refl}
use Rattle.emtp_phasor.proofs.Networks.{resting_network}
use Rattle.emtp_phasor.proofs.resting_network.RestingNetwork.with_ports.Goals as goal

pub returns-clause-network : goal.returns-clause-network
returns-clause-network c = resting_network c.args.self.now _ c.requires.resting refl c.requires.count c.requires.small c.deref.ensures.value c.deref-2.ensures.value c.deref-3.ensures.value c.deref-4.ensures.value

pub returns-clause-kinds : goal.returns-clause-kinds
returns-clause-kinds c = c.deref.ensures.value ∙ c.requires.resting.kinds_are
