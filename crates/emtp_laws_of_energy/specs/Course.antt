-- A series branch over many steps.
use Rattle.std.specs.Prelude.{◌≡◌, ◌≤◌, ◌+◌, ◌*◌, ◌^◌, ◌+ℤ◌, ◌-ℤ◌, ◌*ℤ◌, ◌∷◌, [], ℕ, ℤ, pos, unsigned_abs, List, Some}
use Rattle.emtp_case.specs.StepRecord.{no_lumped}
use Rattle.emtp_case.specs.declared.branch.Lumped.{Lumped}
use Rattle.emtp_case.specs.declared.branch.LumpedState.{LumpedState}
use Rattle.emtp_lumped.specs.Companion.{companion_of}
use Rattle.emtp_lumped.specs.Step.{next_state}
use Rattle.emtp_laws_of_energy.specs.Series.{conductance_of, conducted_fictitious, conducted_resistance, one_if_some}

-- the voltage of a branch in a record, and what the record keeps of it
pub record Moment : Type 0 where
  pub voltage : ℤ
  pub state : LumpedState

-- the newest of moments; rest before the first
abbrev pub latest : List Moment → Moment
latest [] = record { voltage = pos 0; state = no_lumped }
latest (m ∷ past) = m

-- each moment, newest first, is a step of the branch from the one before, at its voltage
abbrev pub AreSteps : ℤ → Lumped → List Moment → Type 0
AreSteps dt x [] = Unit {0}
AreSteps dt x (m ∷ past) = (next_state (companion_of dt x) (latest past).state m.voltage ≡ Some m.state) × AreSteps dt x past

-- i + i', v + v' and vC + vC' of two moments
abbrev pub currents : Moment → Moment → ℤ
currents m n = m.state.current +ℤ n.state.current

abbrev pub voltages : Moment → Moment → ℤ
voltages m n = m.voltage +ℤ n.voltage

abbrev pub capacitor_voltages : Moment → Moment → ℤ
capacitor_voltages m n = m.state.v_c +ℤ n.state.v_c

abbrev pub rise_of_current : Moment → Moment → ℤ
rise_of_current m n = m.state.current -ℤ n.state.current

-- ---- an inductance, alone or with a resistance

-- by how much i - i' exceeds g (v + v') - 2 g (R + r) i', in 10^-18 nA
abbrev pub excess_rise : ℤ → Lumped → Moment → Moment → ℤ
excess_rise dt x m n =
    (pos (10 ^ 18) *ℤ rise_of_current m n +ℤ pos 2 *ℤ (conducted_resistance dt x *ℤ n.state.current))
    -ℤ pos (10 ^ 6) *ℤ (conductance_of dt x *ℤ voltages m n)

-- It is at most 1 nA, half a nA more for each of the two voltages that isn't 0, and what 1.5 nV drive through g.
abbrev pub RisesByItsVoltage : ℤ → Lumped → Moment → Moment → Type 0
RisesByItsVoltage dt x m n =
    2 * unsigned_abs (excess_rise dt x m n)
    ≤ 10 ^ 18 * (2 + one_if_some m.voltage + one_if_some n.voltage) + 3 * 10 ^ 6 * unsigned_abs (conductance_of dt x)

-- a moment without a voltage, and with no current above a limit
abbrev pub IsLeftAlone : ℕ → Moment → Type 0
IsLeftAlone limit m = (m.voltage ≡ pos 0) × (unsigned_abs m.state.current ≤ limit)

abbrev pub AreLeftAlone : ℕ → List Moment → Type 0
AreLeftAlone limit [] = Unit {0}
AreLeftAlone limit (m ∷ past) = IsLeftAlone limit m × AreLeftAlone limit past

-- Over n steps without a voltage the current changes by at most n times the part 2 g |R + r| of the limit, and n times 1 nA
-- and what 1.5 nV drive through g: as g Z is 1 but for the two-thousandth part, and Z is 2L/dt to the nearest micro-ohm, the part
-- |r| dt/L a step of an inductance alone. The whole stands times 2e18.
abbrev pub KeepsItsCurrent : ℤ → Lumped → ℕ → ℕ → Moment → Moment → Type 0
KeepsItsCurrent dt x limit n new old =
    2 * 10 ^ 18 * unsigned_abs (rise_of_current new old)
    ≤ n * (4 * (unsigned_abs (conducted_resistance dt x) * limit) + (2 * 10 ^ 18 + 3 * 10 ^ 6 * unsigned_abs (conductance_of dt x)))

-- Where a step without a voltage meets R + r below 0, the current grows by the part 2 g |R + r| of itself, but for 1 nA and
-- what 1.5 nV drive through g; the whole stands times 2e18.
abbrev pub Grows : ℤ → Lumped → Moment → Moment → Type 0
Grows dt x new old =
    2 * ((10 ^ 18 + 2 * unsigned_abs (conducted_resistance dt x)) * unsigned_abs old.state.current)
    ≤ 2 * 10 ^ 18 * unsigned_abs new.state.current + (2 * 10 ^ 18 + 3 * 10 ^ 6 * unsigned_abs (conductance_of dt x))

-- Over n steps without a voltage the current changes by at most a thousandth of the limit (and 6 % of that at most: |g r| and
-- half of g, in 10^-18), and n times 1 nA and what 1.5 nV drive through g; the whole stands times 2e21.
abbrev pub KeepsAllButAThousandth : ℤ → Lumped → ℕ → ℕ → Moment → Moment → Type 0
KeepsAllButAThousandth dt x limit n new old =
    2 * 10 ^ 21 * unsigned_abs (rise_of_current new old)
    ≤ (2 * 10 ^ 18 + 2 * unsigned_abs (conducted_fictitious dt x) + unsigned_abs (conductance_of dt x)) * limit
    + 1000 * (n * (2 * 10 ^ 18 + 3 * 10 ^ 6 * unsigned_abs (conductance_of dt x)))
