-- Beside `LineValues`: what values hold for their proofs, and what premises say. No clause of the program reaches it.
use Rattle.emtp_fix.specs.declared.limit.TheConstants.{LARGEST_IMPEDANCE, LARGEST_TIME, LEAST_IMPEDANCE}
use Rattle.std.specs.Prelude.{◌^◌, ◌≤ℤ◌, ℤ, pos, IfOk}
use Rattle.emtp_case.specs.Branch.{line_impedance}
use Rattle.emtp_case.specs.held.Branch.{HasLineNumbers}
use Rattle.emtp_case.specs.held.Range.{IsBetween}
use Rattle.emtp_netcards.specs.declared.line_values.LineFields.{LineFields}
use Rattle.emtp_netcards.specs.declared.line_values.LineForm.{LineForm}
use Rattle.emtp_netcards.specs.declared.line_values.LineForm.TheVariants.{PerLength, TravelTime, Velocity}
use Rattle.emtp_netcards.specs.declared.line_values.LineValues.{LineValues}
use Rattle.emtp_netcards.specs.declared.line_values.Surge.{Surge}

abbrev pub IsFirstValue : LineForm → ℤ → Type 0
IsFirstValue PerLength a = IsBetween 1 (10 ^ 12) a
IsFirstValue Velocity a = IsBetween LEAST_IMPEDANCE LARGEST_IMPEDANCE a
IsFirstValue TravelTime a = IsBetween LEAST_IMPEDANCE LARGEST_IMPEDANCE a

abbrev pub IsSecondValue : LineForm → ℤ → Type 0
IsSecondValue PerLength b = IsBetween 1 (10 ^ 12) b
IsSecondValue Velocity b = IsBetween 1 (10 ^ 18) b
IsSecondValue TravelTime b = IsBetween 1 LARGEST_TIME b

pub record IsSurge (s : Surge) : Type 0 where
  pub zc : IsBetween LEAST_IMPEDANCE LARGEST_IMPEDANCE s.zc
  pub r : IsBetween 0 LARGEST_IMPEDANCE s.r
  pub end : IsBetween LEAST_IMPEDANCE LARGEST_IMPEDANCE (line_impedance s.zc s.r)

pub record IsDelay (dt delay : ℤ) : Type 0 where
  pub long : dt ≤ℤ delay
  pub most : delay ≤ℤ pos LARGEST_TIME

abbrev pub IsLineValues : ℤ → LineValues → Type 0
IsLineValues dt l = HasLineNumbers dt l.zc l.r l.delay

-- the fields that were read are in their ranges
pub record AreFields (f : LineFields) : Type 0 where
  pub r : IfOk f.r (IsBetween 0 (10 ^ 12))
  pub a : IfOk f.form (λ form. IfOk f.a (IsFirstValue form))
  pub b : IfOk f.form (λ form. IfOk f.b (IsSecondValue form))
  pub length : IfOk f.length (IsBetween 1 (10 ^ 12))
