-- Beside `Wave`: what values hold for their proofs, and what premises say. No clause of the program reaches it.
use Rattle.std.specs.Prelude.{ℕ, ◌<◌}
use Rattle.emtp_case.specs.declared.source.Shape.{Shape}
use Rattle.emtp_case.specs.declared.source.Shape.TheVariants.{Cosine, NodeVoltage, Pulse, Ramp, Saw, Step, SwitchCurrent, SwitchStatus, Tacs}

-- a shape whose value comes from the time or from one of so many variables
abbrev pub HasWave : ℕ → Shape → Type 0
HasWave vars Step = Unit {0}
HasWave vars (Ramp rise) = Unit {0}
HasWave vars (Cosine freq phase) = Unit {0}
HasWave vars (Tacs var) = var < vars
HasWave vars (Pulse period width) = Unit {0}
HasWave vars (Saw period) = Unit {0}
HasWave vars (NodeVoltage node) = ⊥
HasWave vars (SwitchCurrent switch) = ⊥
HasWave vars (SwitchStatus switch) = ⊥
