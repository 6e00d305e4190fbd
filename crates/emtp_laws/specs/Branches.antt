-- What is true of the branches of a network.
use Rattle.std.specs.Prelude.{◌≡◌, ◌≤◌, ◌≤ℤ◌, ◌+◌, ◌*◌, ◌^◌, ◌+ℤ◌, ◌-ℤ◌, ◌*ℤ◌, ℕ, ℤ, pos, List, unsigned_abs, slice_get, Some, Bool, true, false, All}
use Rattle.emtp_case.specs.Branch.{series_impedance}
use Rattle.emtp_case.specs.StepRecord.{StepRecord, branch_current_at, voltage_at}
use Rattle.emtp_case.specs.declared.branch.Branch.{Branch}
use Rattle.emtp_case.specs.declared.branch.Branch.TheVariants.{Lumped as OfLumped, Line as OfLine, Pseudo as OfPseudo, Phase as OfPhase}
use Rattle.emtp_case.specs.declared.branch.LineState.{LineState}
use Rattle.emtp_case.specs.declared.branch.Lumped.{Lumped}
use Rattle.emtp_case.specs.declared.branch.LumpedState.{LumpedState}
use Rattle.emtp_case.specs.declared.branch.PhaseState.{PhaseState}
use Rattle.emtp_case.specs.declared.case.Parts.{Parts}
use Rattle.emtp_elim.specs.Matrix.{item}
use Rattle.emtp_line.specs.Phases.{Modes, phase_from_history, phase_from_waves, phase_to_history, phase_to_waves, zero_from_waves, zero_to_waves}
use Rattle.emtp_lumped.specs.Step.{history_voltage_of}
use Rattle.emtp_lumped.specs.declared.companion.Companion.{Companion}

-- a branch between two nodes, of which no end touches ground by itself: no line and no phase of one
abbrev pub is_two_pole : Branch → Bool
is_two_pole (OfLumped x) = true
is_two_pole (OfLine x) = false
is_two_pole (OfPseudo x) = true
is_two_pole (OfPhase x) = false

-- all branches are between two nodes
abbrev pub HasTwoPolesAlone : Parts → Type 0
HasTwoPolesAlone case = All (λ (x : Branch). is_two_pole x ≡ true) case.branches

-- the same line seen from its other end
abbrev pub reversed_line : LineState → LineState
reversed_line s = record {
  from_current = s.to_current;
  to_current = s.from_current;
  from_wave = s.to_wave;
  to_wave = s.from_wave;
}

-- the same series branch, put in the other way round
abbrev pub reversed_series : Lumped → Lumped
reversed_series x = record x { «from» = x.to; to = x.from }

-- the voltage of a branch, from its first node to its second
abbrev pub voltage_across : List ℤ → Lumped → ℤ
voltage_across voltages x = item voltages x.from -ℤ item voltages x.to

-- by how much a branch's voltage exceeds the drops at its resistance, its inductance and its capacitance, in 1e-6 nV
abbrev pub excess_voltage : Lumped → ℤ → LumpedState → ℤ
excess_voltage x v s = pos (10 ^ 6) *ℤ v -ℤ (x.r *ℤ s.current +ℤ pos (10 ^ 6) *ℤ (s.v_l +ℤ s.v_c))

-- The voltage of a branch is the sum of its drops within 1.5 nV, 1 nA times its impedance Z in a step, and the part Z / 2e12 of the
-- magnitudes of the voltage and of the last record's history voltage, Z in ohm: what its quotients round. Here Z is in
-- micro-ohm, and the whole stands times 2e12, so that nothing is divided.
abbrev pub AddsUpDrops : ℤ → Lumped → LumpedState → ℤ → LumpedState → Type 0
AddsUpDrops dt x old v new =
    let z = unsigned_abs (series_impedance dt x.r x.l x.c) in
    2 * 10 ^ 12 * unsigned_abs (excess_voltage x v new)
    ≤ 3 * 10 ^ 18 + 2 * 10 ^ 12 * z + z * (unsigned_abs v + unsigned_abs old.history_voltage)

-- the history voltage that a record keeps is that of its current and of its two other voltages
abbrev pub HasItsHistoryVoltage : Companion → LumpedState → Type 0
HasItsHistoryVoltage c s = s.history_voltage ≡ history_voltage_of c s.current s.v_l s.v_c

-- no wave of the list exceeds the limit in magnitude
abbrev pub AreWavesWithin : ℕ → List ℤ → Type 0
AreWavesWithin limit waves = (k : ℕ) → unsigned_abs (item waves k) ≤ limit

-- the history currents of both ends
pub record AreHistoriesWithin (limit : ℕ) (histories : ℤ × ℤ) : Type 0 where
  pub at_from : unsigned_abs histories.0 ≤ limit
  pub at_to : unsigned_abs histories.1 ≤ limit

-- the waves from which the history currents of a phase of a three-phase line come: those of the zero sequence, which phase 0 keeps,
-- and those of the phase itself
pub record ArePhaseWavesWithin (zero_limit limit : ℕ) (first past : List PhaseState) : Type 0 where
  pub zero_from : AreWavesWithin zero_limit (zero_from_waves first)
  pub zero_to : AreWavesWithin zero_limit (zero_to_waves first)
  pub own_from : AreWavesWithin limit (phase_from_waves past)
  pub own_to : AreWavesWithin limit (phase_to_waves past)

-- the history currents of a phase at both ends
abbrev pub phase_histories : Modes → List PhaseState → List PhaseState → ℤ × ℤ
phase_histories m first past = (phase_from_history m first past, phase_to_history m first past)

-- no history current of a phase exceeds the greatest waves of both kinds but for 2 nA of rounding
abbrev pub DoesNotAmplify : Modes → Type 0
DoesNotAmplify m =
    (first past : List PhaseState) (zero_limit limit : ℕ) → ArePhaseWavesWithin zero_limit limit first past
    → AreHistoriesWithin (zero_limit + limit + 2) (phase_histories m first past)

-- the branch at place b is this resistor: it has neither inductance nor capacitance
pub record IsResistorAt (case : Parts) (b : ℕ) (x : Lumped) : Type 0 where
  pub there : slice_get case.branches b ≡ Some (OfLumped x)
  pub no_inductance : x.l ≡ pos 0
  pub no_capacitance : x.c ≡ pos 0

-- the power that a resistor takes in a record, voltage times current, isn't below 0
abbrev pub TakesPower : ℕ → Lumped → StepRecord → Type 0
TakesPower b x r = pos 0 ≤ℤ ((voltage_at x.from r -ℤ voltage_at x.to r) *ℤ branch_current_at b r)
