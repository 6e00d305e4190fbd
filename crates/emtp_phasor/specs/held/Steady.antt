-- Beside `Steady`: what values hold for their proofs, and what premises say. No clause of the program reaches it.
use Rattle.std.specs.Prelude.{◌≡◌, ◌<◌, ◌≤ℤ◌, ℕ, ℤ, pos, unsigned_abs, true, List, length, slice_get, Some, None, Result, Ok, Err}
use Rattle.emtp_fix.specs.Chain.{◌>>=◌}
use Rattle.emtp_case.specs.declared.case.Parts.{Parts}
use Rattle.emtp_admittance.specs.Admittances.{port_at}
use Rattle.emtp_admittance.specs.declared.admittance.TwoPort.{TwoPort}
use Rattle.emtp_phasor.specs.declared.ending.Ending.{Ending}
use Rattle.emtp_phasor.specs.declared.phasor.Phasor.{Phasor}
use Rattle.emtp_phasor.specs.Steady.{flows, row_residual, first_residual_above, greatest_below, State, within, balanced_residuals, steady}

-- the same from the voltages on
abbrev pub judged_volts : Parts → List TwoPort → List Phasor → Result State Ending
judged_volts case ports volts = within case ports volts >>= (λ vs. balanced_residuals case ports vs)

-- these voltages are good, and the greatest residual is this
abbrev pub AreGood : Parts → List TwoPort → List Phasor → ℤ → Type 0
AreGood case ports volts greatest =
    (judged_volts case ports volts ≡ Ok (record { volts = volts; residual = unsigned_abs greatest })) × (pos 0 ≤ℤ greatest)

-- the steady state has these voltages, and the greatest residual is this
abbrev pub IsSteady : Parts → ℤ → List Phasor → ℤ → Type 0
IsSteady case freq volts greatest =
    (steady case freq ≡ Ok (record { volts = volts; residual = unsigned_abs greatest })) × (pos 0 ≤ℤ greatest)

-- the currents of the first branches are in range
abbrev pub AllFlow : Parts → List TwoPort → List Phasor → ℕ → Type 0
AllFlow case ports volts count = (b : ℕ) → b < count → flows (port_at ports b) volts (slice_get case.branches b) ≡ true

-- row p.0 is the first one whose residual exceeds the tolerance, and p.1 is that residual; or none does, and the residual is
-- the greatest one
pub record IsFirstResidualAbove (case : Parts) (ports : List TwoPort) (volts : List Phasor) (row : ℕ)
    (measured : ℤ) : Type 0 where
  pub there : row < length case.nodes
  pub first : first_residual_above case ports volts ≡ Some row
  pub is : measured ≡ pos (row_residual case ports volts row)

pub record AreBelow (case : Parts) (ports : List TwoPort) (volts : List Phasor) (greatest : ℤ) : Type 0 where
  pub none : first_residual_above case ports volts ≡ None
  pub is : greatest ≡ pos (greatest_below (length case.nodes) (row_residual case ports volts))

abbrev pub JudgesResiduals : Parts → List TwoPort → List Phasor → Result ℤ (ℕ × ℤ) → Type 0
JudgesResiduals case ports volts (Ok greatest) = AreBelow case ports volts greatest
JudgesResiduals case ports volts (Err p) = IsFirstResidualAbove case ports volts p.0 p.1
