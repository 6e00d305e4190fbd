-- The number of a record that lies nearest to its range's end, of those by which RANGE names a node. All ranges end at
-- LARGEST_VALUE of their units, so it is the greatest one.
use Rattle.std.specs.Prelude.{◌+◌, ◌==◌, ◌∷◌, [], ◌*ℤ◌, if◌then◌else◌, List, nat_lt, neg_ℤ, None, Option, pos, Some, unsigned_abs, ℕ, ℤ}
use Rattle.std.specs.Int.{int_max, int_min}
use Rattle.emtp_case.specs.Branch.{inductor_impedance}
use Rattle.emtp_case.specs.EndNames.{node_of_branch, node_of_switch}
use Rattle.emtp_case.specs.StepRecord.{StepRecord, branch_current_at, pseudo_at, switch_current_at, voltage_at}
use Rattle.emtp_case.specs.declared.branch.Branch.{Branch}
use Rattle.emtp_case.specs.declared.branch.Branch.TheVariants.{Line as OfLine, Lumped as OfLumped, Phase as OfPhase, Pseudo as OfPseudo}
use Rattle.emtp_case.specs.declared.case.Parts.{Parts}
use Rattle.emtp_case.specs.declared.switch.Switch.{Switch}
use Rattle.emtp_fix.specs.Rounding.{near}
use Rattle.emtp_fix.specs.declared.limit.TheConstants.{LARGEST_VALUE, MICRO}
use Rattle.emtp_worth.specs.declared.nearest.Number.{Number}
use Rattle.emtp_worth.specs.declared.nearest.Number.TheVariants.{Current, Flux, Kept, Through, Voltage}
use Rattle.emtp_worth.specs.declared.nearest.Reached.{Reached}

-- a number held to 10^18
abbrev pub held : ℤ → ℤ
held x = int_max (neg_ℤ (pos LARGEST_VALUE)) (int_min x (pos LARGEST_VALUE))

-- 2 L i / DELTAT, the voltage that an inductance keeps of its current for the next step
abbrev pub kept_voltage : ℤ → ℤ → ℤ → ℤ
kept_voltage dt l i = held (near (inductor_impedance dt l *ℤ i) MICRO)

abbrev pub magnitude : Option Reached → ℕ
magnitude None = 0
magnitude (Some r) = unsigned_abs r.value

-- the greater one; of equal ones the first, and a 0 never
abbrev pub greater : Option Reached → Number → ℤ → Option Reached
greater best of value =
    if nat_lt (magnitude best) (unsigned_abs value) then Some (record { of = of; value = value }) else best

-- with the numbers of a branch: its current, and what of its past else can leave its range
abbrev pub with_numbers : Parts → StepRecord → ℕ → Branch → Option Reached → Option Reached
with_numbers case r at (OfLumped x) best =
    greater (greater best (Current (OfLumped x)) (branch_current_at at r)) (Kept (OfLumped x))
    (kept_voltage case.run.dt x.l (branch_current_at at r))
with_numbers case r at (OfLine x) best = greater best (Current (OfLine x)) (branch_current_at at r)
with_numbers case r at (OfPseudo x) best =
    greater (greater best (Current (OfPseudo x)) (branch_current_at at r)) (Flux (OfPseudo x)) (pseudo_at at r).flux
with_numbers case r at (OfPhase x) best = greater best (Current (OfPhase x)) (branch_current_at at r)

-- of a branch that is named by a node
abbrev pub with_branch : Parts → ℕ → StepRecord → ℕ → Branch → Option Reached → Option Reached
with_branch case node r at b best = if node_of_branch case at == node then with_numbers case r at b best else best

-- of the branches from a place on
abbrev pub with_branches : Parts → ℕ → StepRecord → ℕ → List Branch → Option Reached → Option Reached
with_branches case node r at [] best = best
with_branches case node r at (b ∷ more) best =
    with_branches case node r (at + 1) more (with_branch case node r at b best)

-- of a switch that is named by a node
abbrev pub with_switch : Parts → ℕ → StepRecord → ℕ → Switch → Option Reached → Option Reached
with_switch case node r at s best =
    if node_of_switch case at == node then greater best (Through s) (switch_current_at at r) else best

abbrev pub with_switches : Parts → ℕ → StepRecord → ℕ → List Switch → Option Reached → Option Reached
with_switches case node r at [] best = best
with_switches case node r at (s ∷ more) best =
    with_switches case node r (at + 1) more (with_switch case node r at s best)

-- of the voltage of a node, and of the branches and switches that are named by it, in card order; none where all are 0
unfoldable pub nearest : Parts → ℕ → StepRecord → Option Reached
nearest case node r =
    with_switches case node r 0 case.switches
    (with_branches case node r 0 case.branches (greater None (Voltage node) (voltage_at node r)))
