-- Small networks, worked out by hand, on which the definitions compute to the right records and faults.
use Rattle.std.proofs.Common.{◌≡◌, ◌^◌, ◌*◌, ℕ, zero, suc, ℤ, pos, neg_ℤ, Bool, true, false, List, [], ◌∷◌, map, Option, Some, None, Result, Ok, Err, refl}
use Rattle.emtp_case.specs.Branch.{capacitor_impedance}
use Rattle.emtp_case.specs.Case.{empty_parts}
use Rattle.emtp_case.specs.StepRecord.{StepRecord, current_of, latest, pseudo_of, rest_of}
use Rattle.emtp_case.specs.declared.branch.Branch.{Branch}
use Rattle.emtp_case.specs.declared.branch.Branch.TheVariants.{Line as OfLine, Lumped as OfLumped, Pseudo as OfPseudo}
use Rattle.emtp_case.specs.declared.branch.Point.{Point}
use Rattle.emtp_case.specs.declared.branch.PseudoState.{PseudoState}
use Rattle.emtp_case.specs.declared.case.Parts.{Parts}
use Rattle.emtp_case.specs.declared.run_data.RunData.{RunData}
use Rattle.emtp_case.specs.declared.source.Shape.{Shape}
use Rattle.emtp_case.specs.declared.source.Shape.TheVariants.{Ramp, Step}
use Rattle.emtp_case.specs.declared.source.Source.{Source}
use Rattle.emtp_case.specs.declared.switch.Switch.{Switch}
use Rattle.emtp_case.specs.declared.switch.SwitchKind.TheVariants.{Time}
use Rattle.emtp_elim.specs.Elimination.{last_unknowns, stage, stage_right}
use Rattle.emtp_elim.specs.Fault.{right_fault, row_fault, unknown_fault}
use Rattle.emtp_elim.specs.Outcome.{outcome}
use Rattle.emtp_fix.specs.Chain.{◌>>=◌}
use Rattle.emtp_fix.specs.Rounding.{near, near_abs}
use Rattle.emtp_line.specs.Line.{line_state}
use Rattle.emtp_line.specs.Wave.{end_of}
use Rattle.emtp_lumped.specs.Step.{next_state as next_lumped}
use Rattle.emtp_net.specs.Part.{NetworkPart, part_at, voltages_of}
use Rattle.emtp_net.specs.Step.{network_part}
use Rattle.emtp_net.specs.System.{right}
use Rattle.emtp_net.specs.declared.fault.NetFault.{NetFault}
use Rattle.emtp_net.specs.declared.fault.NetFault.TheVariants.{Range, Residual, Tied, ZeroPivot}
use Rattle.emtp_pseudo.specs.Segment.{segment_of}
use Rattle.emtp_pseudo.specs.Step.{next_state as next_pseudo}
use Rattle.emtp_rows.specs.Nodal.{nodal_matrix}
use Rattle.emtp_wave.specs.Wave.{active_value}

-- ---- runs

-- the record of a step; the control stays
abbrev with_part : List StepRecord → NetworkPart → StepRecord
with_part H part = record {
  voltages = part.voltages;
  branches = part.branches;
  switch_states = part.switch_states;
  switch_currents = part.switch_currents;
  values = (latest H).values;
  blocks = [];
  devices = [];
}

-- the records after so many steps, or the first fault
abbrev after : Parts → ℕ → Result (List StepRecord) NetFault
after case zero = Ok (rest_of case ∷ [])
after case (suc n) = do
  H ← after case n
  part ← network_part case H
  Ok (with_part H part ∷ H)

-- what f says of each of them, newest first
abbrev each : {X : Type 0} → (StepRecord → X) → Result (List StepRecord) NetFault → Result (List X) NetFault
each f (Ok H) = Ok (map f H)
each f (Err fault) = Err fault

abbrev voltages_in : StepRecord → List ℤ
voltages_in r = r.voltages

abbrev currents_in : StepRecord → List ℤ
currents_in r = map current_of r.branches

abbrev fluxes_in : StepRecord → List ℤ
fluxes_in r = map (λ b. let s : PseudoState = pseudo_of b in s.flux) r.branches

abbrev switch_currents_in : StepRecord → List ℤ
switch_currents_in r = r.switch_currents

-- ---- cards

-- 100 microseconds a step, and a tolerance of 0.01 A
abbrev run : RunData
run = record { dt = pos (10 ^ 8); steps = 9; every = 1; tolerance = pos (10 ^ 7) }

abbrev volt : ℤ
volt = pos (10 ^ 9)

abbrev lumped : ℕ → ℕ → ℤ → ℤ → ℤ → Branch
lumped a b r l c = OfLumped (record { line = 1; «from» = a; to = b; r = r; l = l; c = c })

-- so many ohm
abbrev ohm : ℕ → ℕ → ℕ → Branch
ohm a b r = lumped a b (pos (r * 10 ^ 6)) (pos 0) (pos 0)

-- so many V or A from the start on
abbrev source : ℕ → Bool → Shape → ℕ → Source
source n is_current shape volts = record { line = 1; node = n; current = is_current; shape = shape; amplitude = pos (volts * 10 ^ 9); start = pos 0; stop = None }

abbrev volts : ℕ → ℕ → Source
volts n v = source n false Step v

-- a case of so many nodes, whose names don't matter
abbrev names : ℕ → List (List ℕ)
names zero = []
names (suc n) = [] ∷ names n

abbrev network : ℕ → List Branch → List Source → List Switch → Parts
network n branches sources switches = record (empty_parts run) { nodes = names n; branches = branches; sources = sources; switches = switches }

-- ---- series branches

divider : each voltages_in (after (network 2 (ohm 1 2 1 ∷ ohm 2 0 1 ∷ []) (volts 1 100 ∷ []) []) 2)
    ≡ Ok ((pos 0 ∷ pos (10 ^ 11) ∷ pos (5 * 10 ^ 10) ∷ []) ∷ (pos 0 ∷ pos (10 ^ 11) ∷ pos (5 * 10 ^ 10) ∷ []) ∷ (pos 0 ∷ pos 0 ∷ pos 0 ∷ []) ∷ [])
unfolding network_part part_at voltages_of right nodal_matrix outcome row_fault right_fault unknown_fault stage stage_right last_unknowns near near_abs capacitor_impedance next_lumped active_value
divider = refl

-- a branch of 1 ohm between two nodes and no way to ground: the second row has no pivot
floating : each voltages_in (after (network 2 (ohm 1 2 1 ∷ []) [] []) 1) ≡ Err (ZeroPivot 2)
unfolding network_part part_at voltages_of right nodal_matrix outcome row_fault right_fault unknown_fault stage stage_right last_unknowns near near_abs capacitor_impedance next_lumped active_value
floating = refl

-- 10^6 A into 10^6 ohm
far_voltage : each voltages_in (after (network 1 (ohm 1 0 (10 ^ 6) ∷ []) (source 1 true Step (10 ^ 6) ∷ []) []) 1) ≡ Err (Range 1)
unfolding network_part part_at voltages_of right nodal_matrix outcome row_fault right_fault unknown_fault stage stage_right last_unknowns near near_abs capacitor_impedance next_lumped active_value
far_voltage = refl

-- two sources of 1 A into 2 ohm
sources_add_up : each voltages_in (after (network 1 (ohm 1 0 2 ∷ []) (source 1 true Step 1 ∷ source 1 true Step 1 ∷ []) []) 1)
    ≡ Ok ((pos 0 ∷ pos (4 * 10 ^ 9) ∷ []) ∷ (pos 0 ∷ pos 0 ∷ []) ∷ [])
unfolding network_part part_at voltages_of right nodal_matrix outcome row_fault right_fault unknown_fault stage stage_right last_unknowns near near_abs capacitor_impedance next_lumped active_value
sources_add_up = refl

-- 1 V over 1 and 2 milliohm: the conductances are rounded, and 500 nA are left at the middle
thirds : Parts
thirds = network 2 (lumped 1 2 (pos 1000) (pos 0) (pos 0) ∷ lumped 2 0 (pos 2000) (pos 0) (pos 0) ∷ []) (volts 1 1 ∷ []) []

residual_within : each currents_in (after thirds 1) ≡ Ok ((pos 333333333000 ∷ pos 333333333500 ∷ []) ∷ (pos 0 ∷ pos 0 ∷ []) ∷ [])
unfolding network_part part_at voltages_of right nodal_matrix outcome row_fault right_fault unknown_fault stage stage_right last_unknowns near near_abs capacitor_impedance next_lumped active_value thirds
residual_within = refl

residual_above : each currents_in (after (record thirds { run = record run { tolerance = pos 100 } }) 1) ≡ Err (Residual 2 (pos 500))
unfolding network_part part_at voltages_of right nodal_matrix outcome row_fault right_fault unknown_fault stage stage_right last_unknowns near near_abs capacitor_impedance next_lumped active_value thirds
residual_above = refl

-- 1 ohm and 0.05 mH, or 50 microfarad, at 100 V
coil : each currents_in (after (network 1 (lumped 1 0 (pos (10 ^ 6)) (pos 50000) (pos 0) ∷ []) (volts 1 100 ∷ []) []) 3)
    ≡ Ok ((pos (10 ^ 11) ∷ []) ∷ (pos (10 ^ 11) ∷ []) ∷ (pos (5 * 10 ^ 10) ∷ []) ∷ (pos 0 ∷ []) ∷ [])
unfolding network_part part_at voltages_of right nodal_matrix outcome row_fault right_fault unknown_fault stage stage_right last_unknowns near near_abs capacitor_impedance next_lumped active_value
coil = refl

capacitor : each currents_in (after (network 1 (lumped 1 0 (pos (10 ^ 6)) (pos 0) (pos (5 * 10 ^ 10)) ∷ []) (volts 1 100 ∷ []) []) 3)
    ≡ Ok ((pos 0 ∷ []) ∷ (pos 0 ∷ []) ∷ (pos (5 * 10 ^ 10) ∷ []) ∷ (pos 0 ∷ []) ∷ [])
unfolding network_part part_at voltages_of right nodal_matrix outcome row_fault right_fault unknown_fault stage stage_right last_unknowns near near_abs capacitor_impedance next_lumped active_value
capacitor = refl

-- ---- a line

-- 100 ohm to a line of 100 ohm and two steps, open at its far end
line_end : each voltages_in (after (network 3 (ohm 1 2 100 ∷ OfLine (record { line = 2; «from» = 2; to = 3; zc = pos (10 ^ 8); r = pos 0; delay = pos (2 * 10 ^ 8) }) ∷ []) (volts 1 100 ∷ []) []) 5)
    ≡ Ok
    ((pos 0 ∷ pos (10 ^ 11) ∷ pos (10 ^ 11) ∷ pos (10 ^ 11) ∷ [])
    ∷ (pos 0 ∷ pos (10 ^ 11) ∷ pos (5 * 10 ^ 10) ∷ pos (10 ^ 11) ∷ [])
    ∷ (pos 0 ∷ pos (10 ^ 11) ∷ pos (5 * 10 ^ 10) ∷ pos (10 ^ 11) ∷ [])
    ∷ (pos 0 ∷ pos (10 ^ 11) ∷ pos (5 * 10 ^ 10) ∷ pos 0 ∷ [])
    ∷ (pos 0 ∷ pos (10 ^ 11) ∷ pos (5 * 10 ^ 10) ∷ pos 0 ∷ [])
    ∷ (pos 0 ∷ pos 0 ∷ pos 0 ∷ pos 0 ∷ [])
    ∷ [])
unfolding network_part part_at voltages_of right nodal_matrix outcome row_fault right_fault unknown_fault stage stage_right last_unknowns near near_abs capacitor_impedance next_lumped active_value end_of line_state
line_end = refl

-- ---- pseudo-nonlinear branches

abbrev pseudo : Bool → ℕ → Branch
pseudo reactor n = OfPseudo (record { line = 3; «from» = n; to = 0; reactor = reactor; first = 0; count = 2 })

abbrev point : ℕ → ℕ → Point
point i y = record { current = pos (i * 10 ^ 9); other = pos y }

-- a reactor of 1 A at 0.01 Wb and 11 A at 0.02 Wb, at 100 V: step 2 keeps the slope, step 3 has the new one
flux : each fluxes_in (after (record (network 1 (pseudo true 1 ∷ []) (volts 1 100 ∷ []) []) { points = point 1 (10 ^ 10) ∷ point 11 (2 * 10 ^ 10) ∷ [] }) 3)
    ≡ Ok ((pos (25 * 10 ^ 9) ∷ []) ∷ (pos (15 * 10 ^ 9) ∷ []) ∷ (pos (5 * 10 ^ 9) ∷ []) ∷ (pos 0 ∷ []) ∷ [])
unfolding network_part part_at voltages_of right nodal_matrix outcome row_fault right_fault unknown_fault stage stage_right last_unknowns near near_abs capacitor_impedance next_lumped active_value segment_of next_pseudo
flux = refl

-- 126 V over 10 ohm and an arrester of 50 V at 1 A and 60 V at 11 A
arrester : each voltages_in (after (record (network 2 (ohm 1 2 10 ∷ pseudo false 2 ∷ []) (volts 1 126 ∷ []) []) { points = point 1 (50 * 10 ^ 9) ∷ point 11 (60 * 10 ^ 9) ∷ [] }) 3)
    ≡ Ok
    ((pos 0 ∷ pos (126 * 10 ^ 9) ∷ pos (56 * 10 ^ 9) ∷ [])
    ∷ (pos 0 ∷ pos (126 * 10 ^ 9) ∷ pos (56 * 10 ^ 9) ∷ [])
    ∷ (pos 0 ∷ pos (126 * 10 ^ 9) ∷ pos (105 * 10 ^ 9) ∷ [])
    ∷ (pos 0 ∷ pos 0 ∷ pos 0 ∷ [])
    ∷ [])
unfolding network_part part_at voltages_of right nodal_matrix outcome row_fault right_fault unknown_fault stage stage_right last_unknowns near near_abs capacitor_impedance next_lumped active_value segment_of next_pseudo
arrester = refl

-- ---- switches

abbrev switch : ℕ → ℕ → ℤ → Option ℤ → Switch
switch a b close open_at = record { line = 4; «from» = a; to = b; kind = Time close open_at (pos 0) }

-- a step of 250 V against a ramp to 600 V in 0.6 ms, 1 ohm on either side; the breaker is to open at 0.2 ms, and does
-- so once its current has changed its sign
breaker : each switch_currents_in (after (network 4 (ohm 1 2 1 ∷ ohm 3 4 1 ∷ []) (volts 1 250 ∷ source 4 false (Ramp (pos (6 * 10 ^ 8))) 600 ∷ []) (switch 2 3 (neg_ℤ (pos (10 ^ 12))) (Some (pos (2 * 10 ^ 8))) ∷ [])) 4)
    ≡ Ok ((pos 0 ∷ []) ∷ (neg_ℤ (pos (25 * 10 ^ 9)) ∷ []) ∷ (pos (25 * 10 ^ 9) ∷ []) ∷ (pos (75 * 10 ^ 9) ∷ []) ∷ (pos 0 ∷ []) ∷ [])
unfolding network_part part_at voltages_of right nodal_matrix outcome row_fault right_fault unknown_fault stage stage_right last_unknowns near near_abs capacitor_impedance next_lumped active_value
breaker = refl

-- a node between two open switches has nothing else, and is at ground
empty_group : each voltages_in (after (network 4 (ohm 1 2 1 ∷ ohm 3 0 1 ∷ []) (volts 1 100 ∷ []) (switch 2 4 (pos (10 ^ 12)) None ∷ switch 4 3 (pos (10 ^ 12)) None ∷ [])) 1)
    ≡ Ok ((pos 0 ∷ pos (10 ^ 11) ∷ pos (10 ^ 11) ∷ pos 0 ∷ pos 0 ∷ []) ∷ (pos 0 ∷ pos 0 ∷ pos 0 ∷ pos 0 ∷ pos 0 ∷ []) ∷ [])
unfolding network_part part_at voltages_of right nodal_matrix outcome row_fault right_fault unknown_fault stage stage_right last_unknowns near near_abs capacitor_impedance next_lumped active_value
empty_group = refl

-- a switch from the source to ground closes in step 2
tied_source : Parts
tied_source = network 2 (ohm 1 2 1 ∷ []) (volts 1 100 ∷ []) (switch 1 0 (pos (2 * 10 ^ 8)) None ∷ [])

closes_in_step_2 : each switch_currents_in (after tied_source 2) ≡ Err (Tied 1)
unfolding network_part part_at voltages_of right nodal_matrix outcome row_fault right_fault unknown_fault stage stage_right last_unknowns near near_abs capacitor_impedance next_lumped active_value tied_source
closes_in_step_2 = refl

-- a loop of three closed switches: the last one is no bridge and has no current
loop : Parts
loop = network 4 (ohm 1 2 1 ∷ ohm 3 0 1 ∷ []) (volts 1 100 ∷ []) (switch 2 4 (neg_ℤ (pos (10 ^ 12))) None ∷ switch 4 3 (neg_ℤ (pos (10 ^ 12))) None ∷ switch 3 2 (neg_ℤ (pos (10 ^ 12))) None ∷ [])

loop_currents : each switch_currents_in (after loop 1) ≡ Ok ((pos (5 * 10 ^ 10) ∷ pos (5 * 10 ^ 10) ∷ pos 0 ∷ []) ∷ (pos 0 ∷ pos 0 ∷ pos 0 ∷ []) ∷ [])
unfolding network_part part_at voltages_of right nodal_matrix outcome row_fault right_fault unknown_fault stage stage_right last_unknowns near near_abs capacitor_impedance next_lumped active_value loop
loop_currents = refl

loop_voltages : each voltages_in (after loop 1) ≡ Ok ((pos 0 ∷ pos (10 ^ 11) ∷ pos (5 * 10 ^ 10) ∷ pos (5 * 10 ^ 10) ∷ pos (5 * 10 ^ 10) ∷ []) ∷ (pos 0 ∷ pos 0 ∷ pos 0 ∷ pos 0 ∷ pos 0 ∷ []) ∷ [])
unfolding network_part part_at voltages_of right nodal_matrix outcome row_fault right_fault unknown_fault stage stage_right last_unknowns near near_abs capacitor_impedance next_lumped active_value loop
loop_voltages = refl
