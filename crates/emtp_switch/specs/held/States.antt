-- Beside `States`: what values hold for their proofs, and what premises say. No clause of the program reaches it.
use Rattle.emtp_case.specs.declared.switch.SwitchState.{SwitchState}
use Rattle.emtp_case.specs.declared.switch.SwitchState.TheVariants.{Closed, Opened, Waiting}

-- the same state or the next one on the way from waiting over closed to opened
pub data MovesOn : SwitchState → SwitchState → Type 0 where
  stays : (s : SwitchState) → MovesOn s s
  closes : MovesOn Waiting Closed
  opens : MovesOn Closed Opened
