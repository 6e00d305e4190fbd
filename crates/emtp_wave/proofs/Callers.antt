-- For the crates above: the sources of a network have waves.
use Rattle.emtp_case.specs.held.Sizes.{Sizes}
use Rattle.emtp_case.specs.held.Source.{IsNetworkShape}
use Rattle.emtp_case.specs.declared.source.Shape.{Shape}
use Rattle.emtp_case.specs.declared.source.Shape.TheVariants.{Cosine, NodeVoltage, Pulse, Ramp, Saw, Step, SwitchCurrent, SwitchStatus, Tacs}
use Rattle.emtp_wave.specs.held.Wave.{HasWave}

pub network_has_wave : (n : Sizes) (s : Shape) → IsNetworkShape n s → HasWave n.vars s
network_has_wave n Step h = tt
network_has_wave n (Ramp rise) h = tt
network_has_wave n (Cosine freq phase) h = tt
network_has_wave n (Tacs var) h = h
network_has_wave n (Pulse period width) h = absurd h
network_has_wave n (Saw period) h = absurd h
network_has_wave n (NodeVoltage node) h = absurd h
network_has_wave n (SwitchCurrent switch) h = absurd h
network_has_wave n (SwitchStatus switch) h = absurd h
