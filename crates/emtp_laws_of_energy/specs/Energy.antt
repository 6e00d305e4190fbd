-- What a series branch does with energy. Four times an energy over dt is (v + v')(i + i') of a step.
use Rattle.std.specs.Prelude.{◌≤◌, ◌+◌, ◌*◌, ◌^◌, ◌+ℤ◌, ◌-ℤ◌, ◌*ℤ◌, ◌∷◌, ◌++◌, [], ℕ, ℤ, pos, unsigned_abs, List}
use Rattle.emtp_case.specs.declared.branch.Lumped.{Lumped}
use Rattle.emtp_case.specs.declared.branch.LumpedState.{LumpedState}
use Rattle.emtp_laws_of_energy.specs.Course.{Moment, capacitor_voltages, currents, latest, rise_of_current, voltages}
use Rattle.emtp_laws_of_energy.specs.Series.{conductance_of, conducted_fictitious, one_if_some}

-- ---- an inductance alone, over a step

-- by how much what it takes in exceeds the rise of what it stores, L/2 (i^2 - i'^2), and the heat in r, times 4e6 g
abbrev pub excess_step_energy : ℤ → Lumped → Moment → Moment → ℤ
excess_step_energy dt x m n =
    let g = conductance_of dt x in
    let i = currents m n in
    (pos (10 ^ 6) *ℤ (dt *ℤ (g *ℤ (voltages m n *ℤ i))) -ℤ dt *ℤ (conducted_fictitious dt x *ℤ (i *ℤ i)))
    -ℤ pos (2 * 10 ^ 9) *ℤ (g *ℤ (x.l *ℤ (m.state.current *ℤ m.state.current -ℤ n.state.current *ℤ n.state.current)))

-- It is at most dt times the mean of the currents times 1/2 nA / g, 1/4 nA / g more for each of the two voltages that isn't
-- 0, 3/4 nV and 1/4 micro-ohm of the rise of the current.
abbrev pub StoresWhatItTakes : ℤ → Lumped → Moment → Moment → Type 0
StoresWhatItTakes dt x m n =
    let g = unsigned_abs (conductance_of dt x) in
    2 * unsigned_abs (excess_step_energy dt x m n)
    ≤ unsigned_abs dt * (unsigned_abs (currents m n) * (10 ^ 18 * (2 + one_if_some m.voltage + one_if_some n.voltage) + 3 * 10 ^ 6 * g + g * unsigned_abs (rise_of_current m n)))

-- ---- any series branch, from rest on

-- the sum of (v + v')(i + i') over all steps, in nV nA: dt/4 of it is the energy that the branch took in
abbrev pub taken : List Moment → ℤ
taken [] = pos 0
taken (m ∷ past) = voltages m (latest past) *ℤ currents m (latest past) +ℤ taken past

-- the sum of (i + i')^2, in nA nA: dt/4 of it times a resistance is the heat in it
abbrev pub squares : List Moment → ℤ
squares [] = pos 0
squares (m ∷ past) = currents m (latest past) *ℤ currents m (latest past) +ℤ squares past

-- g times the energy that L and C store, L/2 i^2 + C/2 vC^2
abbrev pub conducted_stored : ℤ → Lumped → LumpedState → ℤ
conducted_stored g x s = pos (2 * 10 ^ 9) *ℤ (g *ℤ (x.l *ℤ (s.current *ℤ s.current))) +ℤ pos 2000 *ℤ (g *ℤ (x.c *ℤ (s.v_c *ℤ s.v_c)))

-- by how much what the branch took in exceeds the heat in R and in r and what L and C store, times 4e6 g
abbrev pub excess_energy : ℤ → Lumped → List Moment → ℤ
excess_energy dt x past =
    let g = conductance_of dt x in
    (pos (10 ^ 6) *ℤ (dt *ℤ (g *ℤ taken past)) -ℤ dt *ℤ ((g *ℤ x.r +ℤ conducted_fictitious dt x) *ℤ squares past)) -ℤ conducted_stored g x (latest past).state

-- What a step rounds of it, times 8e9 g: dt times the mean of its currents times 1 nA / g, 3/4 nV (5/4 nV with a capacitance)
-- and 1/4 micro-ohm of the rise of the current; and C times the mean of the voltages of the capacitance times 1/2 nV and 1/2 micro-ohm
-- times the sum of the currents.
abbrev pub step_rounds : ℤ → Lumped → Moment → Moment → ℕ
step_rounds dt x m n =
    let g = unsigned_abs (conductance_of dt x) in
    let i = unsigned_abs (currents m n) in
    1000 * (unsigned_abs dt * (i * (4 * 10 ^ 18 + 10 ^ 6 * ((3 + 2 * one_if_some x.c) * g) + g * unsigned_abs (rise_of_current m n))))
    + 2 * (g * (unsigned_abs x.c * (unsigned_abs (capacitor_voltages m n) * (10 ^ 6 + i))))

abbrev pub all_round : ℤ → Lumped → List Moment → ℕ
all_round dt x [] = 0
all_round dt x (m ∷ past) = step_rounds dt x m (latest past) + all_round dt x past

-- what the branch took in is the heat in R, what L and C store, and the heat in r, within what its steps round
abbrev pub BalancesItsEnergy : ℤ → Lumped → List Moment → Type 0
BalancesItsEnergy dt x past = 2000 * unsigned_abs (excess_energy dt x past) ≤ all_round dt x past

-- the same over the newest steps of a course alone
abbrev pub rounds_since : ℤ → Lumped → List Moment → List Moment → ℕ
rounds_since dt x [] past = 0
rounds_since dt x (m ∷ new) past = step_rounds dt x m (latest (new ++ past)) + rounds_since dt x new past

abbrev pub BalancesSince : ℤ → Lumped → List Moment → List Moment → Type 0
BalancesSince dt x new past =
    2000 * unsigned_abs (excess_energy dt x (new ++ past) -ℤ excess_energy dt x past) ≤ rounds_since dt x new past
