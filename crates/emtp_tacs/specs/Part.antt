-- The control's part of a record.
use Rattle.std.specs.Prelude.{ℕ, ℤ, pos, neg_ℤ, ◌*ℤ◌, List, [], ◌∷◌}
use Rattle.emtp_case.specs.RunData.{time_of}
use Rattle.emtp_case.specs.declared.control.BlockState.{BlockState}
use Rattle.emtp_case.specs.declared.control.DeviceState.{DeviceState}
use Rattle.emtp_case.specs.declared.run_data.RunData.{RunData}
use Rattle.emtp_fix.specs.Rounding.{near}
use Rattle.emtp_fix.specs.declared.limit.TheConstants.{NANO}

-- what the control brings to a record
pub record ControlPart : Type 0 where
  pub values : List ℤ
  pub blocks : List BlockState
  pub devices : List DeviceState

-- the variables that every case has, in a step: TIMEX and DELTAT go by time in ps, brought to nanoseconds, and ISTEP is the
-- step's number; then ZERO, PLUS1 and MINUS1
abbrev pub standing_values : RunData → ℕ → List ℤ
standing_values run step =
    near (time_of run step) (pos 1000) ∷ (pos step *ℤ NANO) ∷ near run.dt (pos 1000) ∷ pos 0 ∷ NANO ∷ neg_ℤ NANO ∷ []
