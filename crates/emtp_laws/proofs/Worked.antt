-- A small network, worked out by hand, on which the laws say what they should. 100 V feed 1 ohm, three closed switches in a loop
-- and 1 ohm to ground: 50 A, and 50 V at each node of the loop.
use Rattle.std.proofs.Common.{◌≡◌, ◌^◌, ◌*◌, ◌+◌, ◌/◌, length, ℕ, ℤ, pos, neg_ℤ, ◌-ℤ◌, ◌*ℤ◌, false, true, List, [], ◌∷◌, map, Some, None, Ok, refl}
use Rattle.std.specs.Prelude.{codes}
use Rattle.emtp_blocks.specs.Block.{chain_of, output_of}
use Rattle.emtp_case.specs.Branch.{capacitor_impedance}
use Rattle.emtp_case.specs.Case.{empty_parts}
use Rattle.emtp_case.specs.StepRecord.{LumpedBranch, StepRecord, branch_current_at, no_lumped, rest_of, voltage_at}
use Rattle.emtp_case.specs.declared.branch.Branch.{Branch}
use Rattle.emtp_case.specs.declared.branch.Branch.TheVariants.{Lumped as OfLumped, Phase as OfPhase}
use Rattle.emtp_case.specs.declared.branch.Lumped.{Lumped}
use Rattle.emtp_case.specs.declared.branch.PhaseState.{PhaseState}
use Rattle.emtp_case.specs.declared.case.Parts.{Parts}
use Rattle.emtp_case.specs.declared.control.BlockState.{BlockState}
use Rattle.emtp_case.specs.declared.control.Limiter.TheVariants.{Free}
use Rattle.emtp_case.specs.declared.run_data.RunData.{RunData}
use Rattle.emtp_case.specs.declared.source.Shape.TheVariants.{Step}
use Rattle.emtp_case.specs.declared.switch.Switch.{Switch}
use Rattle.emtp_case.specs.declared.switch.SwitchKind.TheVariants.{Measuring}
use Rattle.emtp_case.specs.declared.switch.SwitchState.TheVariants.{Closed, Opened}
use Rattle.emtp_elim.specs.Elimination.{last_unknowns, stage, stage_right}
use Rattle.emtp_elim.specs.Fault.{right_fault, row_fault, unknown_fault}
use Rattle.emtp_elim.specs.Outcome.{outcome}
use Rattle.emtp_elim.specs.Matrix.{item}
use Rattle.emtp_fix.specs.Rounding.{near, near_abs}
use Rattle.emtp_line.specs.Line.{line_histories, line_state, next_state as next_line}
use Rattle.emtp_line.specs.Mode.{mode_of}
use Rattle.emtp_line.specs.Phases.{Modes, phase_currents, phase_state}
use Rattle.emtp_line.specs.held.Phases.{next_phases}
use Rattle.emtp_line.specs.Wave.{end_of}
use Rattle.emtp_line.specs.declared.mode.Mode.{Mode}
use Rattle.emtp_lumped.specs.Companion.{companion_of}
use Rattle.emtp_machine.specs.Channels.{samples_in}
use Rattle.emtp_machine.specs.History.{history_upto, samples}
use Rattle.emtp_machine.specs.Next.{next, record_of}
use Rattle.emtp_machine.specs.declared.end.Cause.TheVariants.{Tied}
use Rattle.emtp_lumped.specs.Step.{next_state as next_lumped}
use Rattle.emtp_net.specs.Part.{NetworkPart, part_at, voltages_of}
use Rattle.emtp_net.specs.Step.{network_part}
use Rattle.emtp_net.specs.System.{conductances, couplings, right}
use Rattle.emtp_rows.specs.Nodal.{current_entry, nodal_matrix}
use Rattle.emtp_switch.specs.States.{breaker_state}
use Rattle.emtp_switch.specs.declared.states.View.{View}
use Rattle.emtp_tacs.specs.held.Part.{control_of}
use Rattle.emtp_wave.specs.Wave.{active_value}
use Rattle.emtp_laws.specs.Branches.{excess_voltage, reversed_series}
use Rattle.emtp_laws.specs.Control.{RisesByTheRule}
use Rattle.emtp_laws.specs.Mirror.{mirror_image, mirrored_records}
use Rattle.emtp_laws.specs.Nodes.{leaving_node}
use Rattle.emtp_laws.specs.Phases.{cycled, exchanged, renumbered}
use Rattle.emtp_laws.specs.Runs.{with_steps}

-- ---- the network

abbrev run : RunData
run = record { dt = pos (10 ^ 8); steps = 9; every = 4; tolerance = pos (10 ^ 7) }

abbrev ohm : ℕ → ℕ → Branch
ohm a b = OfLumped (record { line = 1; «from» = a; to = b; r = pos (10 ^ 6); l = pos 0; c = pos 0 })

abbrev closed : ℕ → ℕ → Switch
closed a b = record { line = 2; «from» = a; to = b; kind = Measuring }

loop_at : ℕ → Parts
loop_at volts = record (empty_parts run) {
  nodes = [] ∷ [] ∷ [] ∷ [] ∷ [];
  branches = ohm 1 2 ∷ ohm 3 0 ∷ [];
  sources = record { line = 3; node = 1; current = false; shape = Step; amplitude = pos (volts * 10 ^ 9); start = pos 0; stop = None } ∷ [];
  switches = closed 2 4 ∷ closed 4 3 ∷ closed 3 2 ∷ [];
}

at_rest : ℕ → List StepRecord
at_rest volts = rest_of (loop_at volts) ∷ []

carrying : ℤ → NetworkPart
carrying i = record {
  voltages = pos 0 ∷ (pos 2 *ℤ i) ∷ i ∷ i ∷ i ∷ [];
  branches = LumpedBranch (record { current = i; v_l = pos 0; v_c = pos 0; history_voltage = pos 0 }) ∷ LumpedBranch (record { current = i; v_l = pos 0; v_c = pos 0; history_voltage = pos 0 }) ∷ [];
  switch_states = Closed ∷ Closed ∷ Closed ∷ [];
  switch_currents = i ∷ i ∷ pos 0 ∷ [];
}

-- both ends of each closed switch have 50 V, the source's node has 100 V, the slack switch carries nothing
step : network_part (loop_at 100) (at_rest 100) ≡ Ok (carrying (pos (50 * 10 ^ 9)))
unfolding network_part part_at voltages_of right nodal_matrix outcome row_fault right_fault unknown_fault stage stage_right last_unknowns near near_abs capacitor_impedance next_lumped active_value loop_at at_rest carrying
step = refl

-- nothing is left at nodes 2, 3 and 4; at node 1 the source brings what leaves
currents_at_nodes : map (leaving_node (loop_at 100) (at_rest 100) (carrying (pos (50 * 10 ^ 9)))) (1 ∷ 2 ∷ 3 ∷ 4 ∷ []) ≡ pos (50 * 10 ^ 9) ∷ pos 0 ∷ pos 0 ∷ pos 0 ∷ []
unfolding loop_at at_rest carrying
currents_at_nodes = refl

-- the mirrored case has the opposite numbers, and the one without a voltage has none
mirrored : network_part (mirror_image (loop_at 100)) (mirrored_records (at_rest 100)) ≡ Ok (carrying (neg_ℤ (pos (50 * 10 ^ 9))))
unfolding network_part part_at voltages_of right nodal_matrix outcome row_fault right_fault unknown_fault stage stage_right last_unknowns near near_abs capacitor_impedance next_lumped active_value loop_at at_rest carrying
mirrored = refl

quiet : network_part (loop_at 0) (at_rest 0) ≡ Ok (carrying (pos 0))
unfolding network_part part_at voltages_of right nodal_matrix outcome row_fault right_fault unknown_fault stage stage_right last_unknowns near near_abs capacitor_impedance next_lumped active_value loop_at at_rest carrying
quiet = refl

-- of node 3 the conductances to ground and to the nodes 1 to 4 are -1, 0, 0, 1 and 0 S
conductances_of_node_3 : map (current_entry (loop_at 100) (conductances (loop_at 100) (at_rest 100)) (couplings (loop_at 100)) 3) (0 ∷ 1 ∷ 2 ∷ 3 ∷ 4 ∷ []) ≡ neg_ℤ (pos (10 ^ 12)) ∷ pos 0 ∷ pos 0 ∷ pos (10 ^ 12) ∷ pos 0 ∷ []
unfolding loop_at at_rest near near_abs capacitor_impedance
conductances_of_node_3 = refl

-- the resistor to ground takes 50 V times 50 A
power : (voltage_at 3 (record_of (carrying (pos (50 * 10 ^ 9))) (control_of (rest_of (loop_at 100)))) -ℤ voltage_at 0 (record_of (carrying (pos (50 * 10 ^ 9))) (control_of (rest_of (loop_at 100)))))
    *ℤ branch_current_at 1 (record_of (carrying (pos (50 * 10 ^ 9))) (control_of (rest_of (loop_at 100))))
    ≡ pos (25 * 10 ^ 20)
unfolding loop_at carrying
power = refl

-- whatever the control keeps, the step is the same
blind : network_part (loop_at 100) (record (rest_of (loop_at 100)) { values = pos 7 ∷ [] } ∷ []) ≡ Ok (carrying (pos (50 * 10 ^ 9)))
unfolding network_part part_at voltages_of right nodal_matrix outcome row_fault right_fault unknown_fault stage stage_right last_unknowns near near_abs capacitor_impedance next_lumped active_value loop_at carrying
blind = refl

-- the mirror image of the mirror image
twice : mirror_image (mirror_image (loop_at 100)) ≡ loop_at 100
unfolding loop_at
twice = refl

-- 100 V over 1 ohm and two closed switches to ground: both nodes behind the resistor are at 0, and 100 A flow
to_ground : Parts
to_ground = record (loop_at 100) { nodes = [] ∷ [] ∷ [] ∷ []; branches = ohm 1 2 ∷ []; switches = closed 2 3 ∷ closed 3 0 ∷ [] }

grounded : network_part to_ground (rest_of to_ground ∷ [])
    ≡ Ok (record {
      voltages = pos 0 ∷ pos (100 * 10 ^ 9) ∷ pos 0 ∷ pos 0 ∷ [];
      branches = LumpedBranch (record { current = pos (100 * 10 ^ 9); v_l = pos 0; v_c = pos 0; history_voltage = pos 0 }) ∷ [];
      switch_states = Closed ∷ Closed ∷ [];
      switch_currents = pos (100 * 10 ^ 9) ∷ pos (100 * 10 ^ 9) ∷ [];
    })
unfolding network_part part_at voltages_of right nodal_matrix outcome row_fault right_fault unknown_fault stage stage_right last_unknowns near near_abs capacitor_impedance next_lumped active_value loop_at to_ground
grounded = refl

-- ---- a line of 100 ohm

-- the wave of 1 A that left `from` one travel time before is the history current of the other end, and no greater
histories : line_histories (mode_of (pos 100) (pos (10 ^ 8)) (pos 0) (pos 100)) (record { from_current = pos 0; to_current = pos 0; from_wave = pos (10 ^ 9); to_wave = pos 0 } ∷ []) ≡ (pos 0, neg_ℤ (pos (10 ^ 9)))
unfolding near near_abs
histories = refl

-- one that had 1 A waves at `from` alone, at 50 V and 100 V: the other way round it has the same numbers at the other ends
one_way : next_line (mode_of (pos 100) (pos (10 ^ 8)) (pos 0) (pos 100)) (record { from_current = pos 0; to_current = pos 0; from_wave = pos (10 ^ 9); to_wave = pos 0 } ∷ []) (pos (50 * 10 ^ 9)) (pos (100 * 10 ^ 9))
    ≡ Some (record { from_current = pos (5 * 10 ^ 8); to_current = pos 0; from_wave = pos (10 ^ 9); to_wave = pos (10 ^ 9) })
unfolding line_state end_of near near_abs
one_way = refl

other_way : next_line (mode_of (pos 100) (pos (10 ^ 8)) (pos 0) (pos 100)) (record { from_current = pos 0; to_current = pos 0; from_wave = pos 0; to_wave = pos (10 ^ 9) } ∷ []) (pos (100 * 10 ^ 9)) (pos (50 * 10 ^ 9))
    ≡ Some (record { from_current = pos 0; to_current = pos (5 * 10 ^ 8); from_wave = pos (10 ^ 9); to_wave = pos (10 ^ 9) })
unfolding line_state end_of near near_abs
other_way = refl

-- ---- limits of -20 and 20

outputs : map (output_of (record { low = Some (neg_ℤ (pos 20)); high = Some (pos 20) }) Free) (pos 30 ∷ pos 10 ∷ neg_ℤ (pos 30) ∷ []) ≡ pos 20 ∷ pos 10 ∷ neg_ℤ (pos 20) ∷ []
outputs = refl

-- ---- 1 ohm and 1 mH in series, of which the inductance has 20 ohm in a step of 100 us

coil : Lumped
coil = record { line = 1; «from» = 1; to = 2; r = pos (10 ^ 6); l = pos (10 ^ 6); c = pos 0 }

-- from rest 21 V drive 1 A, and 20 V drop at the inductance
coil_moves : next_lumped (companion_of (pos (10 ^ 8)) coil) no_lumped (pos (21 * 10 ^ 9))
    ≡ Some (record { current = pos (10 ^ 9); v_l = pos (20 * 10 ^ 9); v_c = pos 0; history_voltage = pos (40 * 10 ^ 9) })
unfolding coil next_lumped near near_abs capacitor_impedance
coil_moves = refl

-- the other way round all of it is opposite
coil_turned : next_lumped (companion_of (pos (10 ^ 8)) (reversed_series coil)) no_lumped (neg_ℤ (pos (21 * 10 ^ 9)))
    ≡ Some (record { current = neg_ℤ (pos (10 ^ 9)); v_l = neg_ℤ (pos (20 * 10 ^ 9)); v_c = pos 0; history_voltage = neg_ℤ (pos (40 * 10 ^ 9)) })
unfolding coil next_lumped near near_abs capacitor_impedance
coil_turned = refl

-- 21 V are the sum of the drops; of 22 V the rounded current of 1,047,619,048 nA leaves -8 nV, and up to 22.5 nV would be allowed
nothing_left : excess_voltage coil (pos (21 * 10 ^ 9)) (record { current = pos (10 ^ 9); v_l = pos (20 * 10 ^ 9); v_c = pos 0; history_voltage = pos 0 }) ≡ pos 0
unfolding coil
nothing_left = refl

little_left : excess_voltage coil (pos (22 * 10 ^ 9)) (record { current = pos 1047619048; v_l = pos 20952380960; v_c = pos 0; history_voltage = pos 0 }) ≡ neg_ℤ (pos (8 * 10 ^ 6))
unfolding coil
little_left = refl

-- ---- a three-phase line from the nodes 1, 2 and 3 to 4, 5 and 6, with 7, 8 and 9 pS of its phases and 3 pS between them

abbrev phase : ℕ → Branch
phase p = OfPhase (record { line = p; «from» = p + 1; to = p + 4; trio = 0; phase = p })

three : Parts
three = record (empty_parts run) {
  branches = phase 0 ∷ phase 1 ∷ phase 2 ∷ [];
  trios = record { first = 0; zc = []; r = []; delay = [] } ∷ [];
}

-- what node 2 has with the nodes 1 to 6, and they with it
from_node_2 : map (current_entry three (pos 7 ∷ pos 8 ∷ pos 9 ∷ []) (pos 3 ∷ []) 2) (1 ∷ 2 ∷ 3 ∷ 4 ∷ 5 ∷ 6 ∷ []) ≡ pos 3 ∷ pos 8 ∷ pos 3 ∷ pos 0 ∷ pos 0 ∷ pos 0 ∷ []
unfolding three
from_node_2 = refl

to_node_2 : map (λ n. current_entry three (pos 7 ∷ pos 8 ∷ pos 9 ∷ []) (pos 3 ∷ []) n 2) (1 ∷ 2 ∷ 3 ∷ 4 ∷ 5 ∷ 6 ∷ []) ≡ pos 3 ∷ pos 8 ∷ pos 3 ∷ pos 0 ∷ pos 0 ∷ pos 0 ∷ []
unfolding three
to_node_2 = refl

-- by the new numbers of its phases a list of three goes round, or its last two change places
went_round : renumbered cycled (pos 4 ∷ pos 5 ∷ pos 6 ∷ []) ≡ pos 5 ∷ pos 6 ∷ pos 4 ∷ []
went_round = refl

changed_places : renumbered exchanged (pos 4 ∷ pos 5 ∷ pos 6 ∷ []) ≡ pos 4 ∷ pos 6 ∷ pos 5 ∷ []
changed_places = refl

-- 4 S of the zero sequence and 1 S of the positive one: 2 S of each phase to the others and to ground, 1 S to each other phase
abbrev sequence : ℕ → Mode
sequence siemens = record { conductance = pos (siemens * 10 ^ 12); attenuation = pos 0; far_share = pos 0; near_share = pos 0; steps = 1; rest = pos 0; dt = pos 1 }

modes : Modes
modes = record { zero_sequence = sequence 4; positive = sequence 1 }

-- 1, 2 and 3 nV drive 7, 8 and 9 nA, and by new numbers the same ones
by_old_numbers : phase_currents modes (pos 0 ∷ pos 0 ∷ pos 0 ∷ []) (pos 1 ∷ pos 2 ∷ pos 3 ∷ []) ≡ pos 7 ∷ pos 8 ∷ pos 9 ∷ []
unfolding modes near near_abs
by_old_numbers = refl

by_new_numbers : phase_currents modes (pos 0 ∷ pos 0 ∷ pos 0 ∷ []) (renumbered cycled (pos 1 ∷ pos 2 ∷ pos 3 ∷ [])) ≡ pos 8 ∷ pos 9 ∷ pos 7 ∷ []
unfolding modes near near_abs
by_new_numbers = refl

-- what a phase has at one end where nothing is at the other
at_one_end : ℤ → ℤ → ℤ → PhaseState
at_one_end i w w0 = record { from_current = i; to_current = pos 0; from_wave = w; to_wave = pos 0; from_zero_wave = w0; to_zero_wave = pos 0 }

at_the_other : ℤ → ℤ → ℤ → PhaseState
at_the_other i w w0 = record { from_current = pos 0; to_current = i; from_wave = pos 0; to_wave = w; from_zero_wave = pos 0; to_zero_wave = w0 }

-- the waves are 1 S times what each voltage is apart from the mean of 2 nV, and 4 S times the mean, which stands with phase 0
three_one_way : next_phases modes (λ p. []) (pos 1 ∷ pos 2 ∷ pos 3 ∷ []) (pos 0 ∷ pos 0 ∷ pos 0 ∷ []) ≡ Ok (at_one_end (pos 7) (neg_ℤ (pos 1)) (pos 8) ∷ at_one_end (pos 8) (pos 0) (pos 0) ∷ at_one_end (pos 9) (pos 1) (pos 0) ∷ [])
unfolding modes near near_abs phase_state at_one_end
three_one_way = refl

three_other_way : next_phases modes (λ p. []) (pos 0 ∷ pos 0 ∷ pos 0 ∷ []) (pos 1 ∷ pos 2 ∷ pos 3 ∷ []) ≡ Ok (at_the_other (pos 7) (neg_ℤ (pos 1)) (pos 8) ∷ at_the_other (pos 8) (pos 0) (pos 0) ∷ at_the_other (pos 9) (pos 1) (pos 0) ∷ [])
unfolding modes near near_abs phase_state at_the_other
three_other_way = refl

-- ---- a breaker that is to open at 5 ps, with a margin of 2 nA

abbrev seen : ℤ → ℤ → ℤ → View
seen time current before = record { time = time; current = current; before = before; voltage = pos 0; on = true }

-- before its time it stays closed; then it opens at its margin, not beyond it, and after a change of sign
breakers : map (λ v. breaker_state (pos 0) (Some (pos 5)) (pos 2) v Closed) (seen (pos 4) (pos 1) (pos 9) ∷ seen (pos 5) (pos 2) (pos 9) ∷ seen (pos 5) (pos 3) (pos 9) ∷ seen (pos 5) (pos 3) (neg_ℤ (pos 9)) ∷ [])
    ≡ Closed ∷ Opened ∷ Closed ∷ Opened ∷ []
breakers = refl

-- ---- a block of order 2 that had the errors 2 and 5 and the numbers 7 and 11, and has the errors 3 and 1

old_block : BlockState
old_block = record { limiter = Free; errors = pos 2 ∷ pos 5 ∷ []; chain = pos 7 ∷ pos 11 ∷ [] }

new_block : BlockState
new_block = record { limiter = Free; errors = pos 3 ∷ pos 1 ∷ []; chain = pos 2 ∷ pos 14 ∷ [] }

new_numbers : map (chain_of 2 (pos 2 ∷ pos 5 ∷ []) (pos 7 ∷ pos 11 ∷ []) (item (pos 3 ∷ pos 1 ∷ [])) false) (0 ∷ 1 ∷ []) ≡ pos 2 ∷ pos 14 ∷ []
new_numbers = refl

-- the first falls by 3 and 2, the second rises by 2 - 1 and 7 - 5
first_number_rises : RisesByTheRule old_block 0 new_block
unfolding old_block new_block
first_number_rises = refl

second_number_rises : RisesByTheRule old_block 1 new_block
unfolding old_block new_block
second_number_rises = refl

-- ---- a source of 100 V that a closed switch ties to ground

shorted : Parts
shorted = record (loop_at 100) { nodes = codes "SRC" ∷ []; branches = ohm 1 0 ∷ []; switches = closed 1 0 ∷ [] }

-- its run ends in the first step, and names the source's node
end_of_the_short : (history_upto shorted 3).end ≡ Some (record { step = 1; name = codes "SRC"; cause = Tied; measured = pos 0 })
unfolding history_upto next network_part shorted loop_at
end_of_the_short = refl

-- rest is its only sample: no step over 4, and one
samples_of_the_short : length (samples shorted (history_upto shorted 3)) ≡ 0 / 4 + 1
unfolding history_upto next network_part samples_in shorted loop_at
samples_of_the_short = refl

-- with more steps it is the same
longer_short : history_upto (with_steps 20 shorted) 3 ≡ history_upto shorted 3
unfolding history_upto next network_part shorted loop_at
longer_short = refl
