use Rattle.std.proofs.Common.{◌<◌, length, refl, arith}
use Rattle.emtp_phasor.proofs.Ports.{port_read}
use Rattle.emtp_phasor.proofs.fill.port_at.Goals as goal

pub returns-clause-value : goal.returns-clause-value
returns-clause-value c =
    let there : c.args.at < length c.args.network.ports.now = omega (arith, c.requires.there, c.requires.network.ports_count) in
    port_read c.args.network.ports.now c.args.at _ _ there refl

pub returns-clause-small : goal.returns-clause-small
returns-clause-small c =
    let there : c.args.at < length c.args.network.ports.now = omega (arith, c.requires.there, c.requires.network.ports_count) in
    c.requires.network.small _ _ there
