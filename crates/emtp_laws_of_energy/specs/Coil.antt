-- A reactor of one point over many steps: the same inductance in flux form, L = flux over current of its point. Units: pWb,
-- nA, nV, ps; 1 pWb is 10^9 ps nV.
use Rattle.std.specs.Prelude.{◌≡◌, ◌≤◌, ◌+◌, ◌*◌, ◌^◌, ◌+ℤ◌, ◌-ℤ◌, ◌*ℤ◌, ◌∷◌, [], ℕ, ℤ, pos, unsigned_abs, List, Some, length, true}
use Rattle.emtp_case.specs.Branch.{points_of}
use Rattle.emtp_case.specs.declared.branch.Point.{Point}
use Rattle.emtp_case.specs.declared.branch.Pseudo.{Pseudo}
use Rattle.emtp_case.specs.declared.branch.PseudoState.{PseudoState}
use Rattle.emtp_case.specs.declared.case.Parts.{Parts}
use Rattle.emtp_fix.specs.Rounding.{near}
use Rattle.emtp_pseudo.specs.Pseudos.{newest, next_of}
use Rattle.emtp_pseudo.specs.declared.moment.Moment.{Moment}

-- the branch is a reactor whose characteristic is the straight line through the origin and this point
pub record IsCoil (case : Parts) (x : Pseudo) (p : Point) : Type 0 where
  pub reactor : x.reactor ≡ true
  pub one : points_of case.points x.first x.count ≡ p ∷ []

-- each moment, newest first, is a step of the branch from the one before, at its voltage
abbrev pub AreSteps : Parts → Pseudo → List Moment → Type 0
AreSteps case x [] = Unit {0}
AreSteps case x (m ∷ past) = (next_of case x past m.voltage ≡ Some m.state) × AreSteps case x past

-- the sum of v + v' over all steps, in nV: dt/2 of it is the integral of the voltage
abbrev pub driven : List Moment → ℤ
driven [] = pos 0
driven (m ∷ past) = (m.voltage +ℤ (newest past).voltage) +ℤ driven past

-- twice the flux is dt times that sum within a pWb a step
abbrev pub AddsUpItsVoltage : ℤ → List Moment → Type 0
AddsUpItsVoltage dt past = unsigned_abs (pos (2 * 10 ^ 9) *ℤ (newest past).state.flux -ℤ dt *ℤ driven past) ≤ 10 ^ 9 * length past

-- the current is that of the flux on the line, rounded once: flux over L
abbrev pub HasCurrentOfFlux : Point → PseudoState → Type 0
HasCurrentOfFlux p s = s.current ≡ near (p.current *ℤ s.flux) p.other

-- By how much F i exceeds I dt/2 times that sum, for a point I, F: the current against the integral of the voltage over L, in
-- 1e-9 nA pWb / 2.
abbrev pub excess_current : ℤ → Point → List Moment → ℤ
excess_current dt p past = pos (2 * 10 ^ 9) *ℤ (p.other *ℤ (newest past).state.current) -ℤ p.current *ℤ (dt *ℤ driven past)

-- It is at most 1.5 nA and half a pS times the sum of the newest two voltages, and what half a pWb for each step and one more
-- drive through L.
abbrev pub IntegratesItsVoltage : ℤ → Point → List Moment → Type 0
IntegratesItsVoltage dt p [] = Unit {0}
IntegratesItsVoltage dt p (m ∷ past) =
    1000 * unsigned_abs (excess_current dt p (m ∷ past))
    ≤ unsigned_abs p.other * (3 * 10 ^ 12 + unsigned_abs ((newest past).voltage +ℤ m.voltage)) + 10 ^ 12 * (unsigned_abs p.current * (length (m ∷ past) + 1))

-- moments without a voltage
abbrev pub AreLeftAlone : List Moment → Type 0
AreLeftAlone [] = Unit {0}
AreLeftAlone (m ∷ past) = (m.voltage ≡ pos 0) × AreLeftAlone past

-- ---- energy

-- by how much F i exceeds I flux in the newest record
abbrev pub off_line : Point → List Moment → ℤ
off_line p past = p.other *ℤ (newest past).state.current -ℤ p.current *ℤ (newest past).state.flux

-- 2e12 times what it is at most: F times 1.5 nA and half a pS times the sum of the newest two voltages, and I times half a
-- pWb
abbrev pub line_rounds : Point → List Moment → ℕ
line_rounds p [] = 0
line_rounds p (m ∷ past) = unsigned_abs p.other * (3 * 10 ^ 12 + unsigned_abs ((newest past).voltage +ℤ m.voltage)) + 10 ^ 12 * unsigned_abs p.current

-- the sum of (v + v')(i + i') over all steps, in nV nA: dt/4 of it is the energy that the reactor took in
abbrev pub taken : List Moment → ℤ
taken [] = pos 0
taken (m ∷ past) = (m.voltage +ℤ (newest past).voltage) *ℤ (m.state.current +ℤ (newest past).state.current) +ℤ taken past

-- what a step rounds of it, times 4000 F: the rise of the flux times what both records have off the line, over L, and half a
-- pWb times the mean of the currents
abbrev pub coil_rounds : Point → Moment → List Moment → ℕ
coil_rounds p m past =
    unsigned_abs (m.state.flux -ℤ (newest past).state.flux) * (line_rounds p (m ∷ past) + line_rounds p past)
    + 10 ^ 12 * (unsigned_abs p.other * unsigned_abs (m.state.current +ℤ (newest past).state.current))

abbrev pub all_round : Point → List Moment → ℕ
all_round p [] = 0
all_round p (m ∷ past) = coil_rounds p m past + all_round p past

-- what it took in is what it stores, flux^2 / 2L, within what its steps round; there is no heat
abbrev pub StoresItsEnergy : ℤ → Point → List Moment → Type 0
StoresItsEnergy dt p past =
    1000 * unsigned_abs (p.other *ℤ (dt *ℤ taken past) -ℤ pos (2 * 10 ^ 9) *ℤ (p.current *ℤ ((newest past).state.flux *ℤ (newest past).state.flux))) ≤ all_round p past
