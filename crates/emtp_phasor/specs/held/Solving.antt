-- What is answered to a case and a frequency, if one is given.
use Rattle.std.specs.Prelude.{◌≡◌, ◌∷◌, ℕ, ℤ, List, Option, Result, Ok, Err}
use Rattle.emtp_admittance.specs.Refusals.{judged_frequency}
use Rattle.emtp_case.specs.declared.case.Parts.{Parts}
use Rattle.emtp_machine.specs.Next.{node_name}
use Rattle.emtp_phasor.specs.Steady.{steady}
use Rattle.emtp_phasor.specs.held.Steady.{IsSteady}
use Rattle.emtp_phasor.specs.Volts.{nothing}
use Rattle.emtp_machine.specs.declared.end.Cause.{Cause}
use Rattle.emtp_phasor.specs.declared.ending.Ending.{Ending}
use Rattle.emtp_phasor.specs.declared.fault.PhasorFault.{PhasorFault}
use Rattle.emtp_phasor.specs.declared.fault.PhasorFault.TheVariants.{Ended, NoMemory, Refused}
use Rattle.emtp_phasor.specs.declared.steady_state.Phasors.{Phasors}

-- an end, told by the name of its node
pub record TellsEnd (case : Parts) (end : Ending) (name : List ℕ) (cause : Cause) (measured : ℤ) : Type 0 where
  pub name_is : name ≡ node_name case end.node
  pub cause_is : cause ≡ end.cause
  pub measured_is : measured ≡ end.measured

-- the frequency is good, and the solution at it ends so
pub record EndsSolution (case : Parts) (given : Option ℤ) (name : List ℕ) (cause : Cause) (measured : ℤ) : Type 0 where
  pub freq : ℤ
  pub good : judged_frequency case given ≡ Ok freq
  pub end : Ending
  pub is : steady case freq ≡ Err end
  pub told : TellsEnd case end name cause measured

-- want of memory is free
abbrev pub FaultsAt : Parts → Option ℤ → PhasorFault → Type 0
FaultsAt case given (Refused line reason) = judged_frequency case given ≡ Err (record { line = line; reason = reason })
FaultsAt case given (Ended name cause measured) = EndsSolution case given name cause measured
FaultsAt case given NoMemory = Unit {0}

-- the frequency is good, and its steady state has these voltages behind that of ground, which is 0
pub record IsSolved (case : Parts) (given : Option ℤ) (p : Phasors) : Type 0 where
  pub good : judged_frequency case given ≡ Ok p.freq
  pub steady : IsSteady case p.freq (nothing ∷ p.volts.items) p.residual

abbrev pub AnswersCase : Parts → Option ℤ → Result Phasors PhasorFault → Type 0
AnswersCase case given (Ok p) = IsSolved case given p
AnswersCase case given (Err fault) = FaultsAt case given fault

-- ---- one frequency that is good

abbrev pub FaultsAtFrequency : Parts → ℤ → PhasorFault → Type 0
FaultsAtFrequency case freq (Refused line reason) = ⊥
FaultsAtFrequency case freq (Ended name cause measured) =
    (end : Ending) × (steady case freq ≡ Err end) × TellsEnd case end name cause measured
FaultsAtFrequency case freq NoMemory = Unit {0}
