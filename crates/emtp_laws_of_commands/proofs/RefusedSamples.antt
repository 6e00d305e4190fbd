-- Records, samples and ends that the clauses of `emtp` refuse, by computation. First of each relation stands what it takes.
use Rattle.std.proofs.Common.{◌^◌, ◌+◌, ◌*◌, inl, ℕ, zero, suc, ℤ, pos, negsuc, ◌-◌, false, List, [], ◌∷◌, None, refl, arith}
use Rattle.emtp_blocks.specs.System as blocks
use Rattle.emtp_case.specs.Branch.{capacitor_impedance}
use Rattle.emtp_case.specs.Case.{empty_parts}
use Rattle.emtp_case.specs.StepRecord.{BranchState, LumpedBranch, StepRecord, rest_of}
use Rattle.emtp_case.specs.declared.branch.Branch.{Branch}
use Rattle.emtp_case.specs.declared.branch.Branch.TheVariants.{Lumped as OfLumped}
use Rattle.emtp_case.specs.declared.case.Parts.{Parts}
use Rattle.emtp_case.specs.declared.channel.Channel.TheVariants.{NodeVoltage}
use Rattle.emtp_case.specs.declared.run_data.RunData.{RunData}
use Rattle.emtp_case.specs.declared.source.Shape.TheVariants.{Step}
use Rattle.emtp_elim.specs.Elimination.{last_unknowns, stage, stage_right}
use Rattle.emtp_elim.specs.Fault.{right_fault, row_fault, unknown_fault}
use Rattle.emtp_elim.specs.Outcome.{outcome}
use Rattle.emtp_fix.specs.Rounding.{near, near_abs}
use Rattle.emtp_lumped.specs.Step.{next_state}
use Rattle.emtp_machine.specs.History.{history_upto}
use Rattle.emtp_machine.specs.Laws.{IsBalanced, IsSampleOf}
use Rattle.emtp_machine.specs.Machine.{IsEnd}
use Rattle.emtp_machine.specs.Next.{next}
use Rattle.emtp_machine.specs.declared.end.Cause.TheVariants.{Tied}
use Rattle.emtp_machine.specs.declared.end.End.{End}
use Rattle.emtp_net.specs.Part.{part_at, voltages_of}
use Rattle.emtp_net.specs.Step.{network_part}
use Rattle.emtp_net.specs.System.{right}
use Rattle.emtp_rows.specs.Nodal.{nodal_matrix}
use Rattle.emtp_tacs.specs.Step.{control_step}
use Rattle.emtp_wave.specs.Wave.{active_value}

-- ---- 100 V over twice 1 ohm: 50 A, and 50 V at the node between, which is the channel; the tolerance is 10 mA

abbrev run : RunData
run = record { dt = pos (10 ^ 8); steps = 9; every = 1; tolerance = pos (10 ^ 7) }

abbrev ohm : ℕ → ℕ → Branch
ohm a b = OfLumped (record { line = 1; «from» = a; to = b; r = pos (10 ^ 6); l = pos 0; c = pos 0 })

abbrev divider : Parts
divider = record (empty_parts run) {
  nodes = (83 ∷ []) ∷ (77 ∷ []) ∷ [];
  branches = ohm 1 2 ∷ ohm 2 0 ∷ [];
  sources = record { line = 3; node = 1; current = false; shape = Step; amplitude = pos (100 * 10 ^ 9); start = pos 0; stop = None } ∷ [];
  channels = NodeVoltage 2 ∷ [];
}

abbrev flowing : ℤ → BranchState
flowing current = LumpedBranch (record { current = current; v_l = pos 0; v_c = pos 0; history_voltage = pos 0 })

-- the records after step 1, with these currents into the node between and out of it
abbrev carrying : ℤ → ℤ → List StepRecord
carrying comes goes =
    record (rest_of divider) { voltages = pos 0 ∷ pos (100 * 10 ^ 9) ∷ pos (50 * 10 ^ 9) ∷ []; branches = flowing comes ∷ flowing goes ∷ [] }
    ∷ rest_of divider ∷ []

-- ---- a record balances

balances : IsBalanced divider (carrying (pos (50 * 10 ^ 9)) (pos (50 * 10 ^ 9)))
unfolding near near_abs capacitor_impedance
balances zero within = omega arith
balances (suc zero) within = omega arith
balances (suc (suc row)) within = omega arith

-- 10 mA too many are within the tolerance, and a nanoampere more isn't
balances_within_tolerance : IsBalanced divider (carrying (pos (50 * 10 ^ 9)) (pos (50 * 10 ^ 9 + 10 ^ 7)))
unfolding near near_abs capacitor_impedance
balances_within_tolerance zero within = omega arith
balances_within_tolerance (suc zero) within = omega arith
balances_within_tolerance (suc (suc row)) within = omega arith

nanoampere_too_many : IsBalanced divider (carrying (pos (50 * 10 ^ 9)) (pos (50 * 10 ^ 9 + 10 ^ 7 + 1))) → ⊥
unfolding near near_abs capacitor_impedance
nanoampere_too_many balanced = omega (arith, balanced 0 (omega arith), balanced 1 (omega arith))

ampere_too_few : IsBalanced divider (carrying (pos (50 * 10 ^ 9)) (pos (49 * 10 ^ 9))) → ⊥
unfolding near near_abs capacitor_impedance
ampere_too_few balanced = omega (arith, balanced 0 (omega arith), balanced 1 (omega arith))

nothing_goes : IsBalanced divider (carrying (pos (50 * 10 ^ 9)) (pos 0)) → ⊥
unfolding near near_abs capacitor_impedance
nothing_goes balanced = omega (arith, balanced 0 (omega arith), balanced 1 (omega arith))

comes_from_both : IsBalanced divider (carrying (pos (50 * 10 ^ 9)) (negsuc (50 * 10 ^ 9 - 1))) → ⊥
unfolding near near_abs capacitor_impedance
comes_from_both balanced = omega (arith, balanced 0 (omega arith), balanced 1 (omega arith))

-- ---- a sample is that of its record

rest_is_not_nanovolt : IsSampleOf divider ((pos 1 ∷ []) ∷ []) 0 → ⊥
unfolding history_upto
rest_is_not_nanovolt sample = grind (arith, sample.values)

rest_has_a_value : IsSampleOf divider ([] ∷ []) 0 → ⊥
unfolding history_upto
rest_has_a_value sample = grind (arith, sample.values)

rest_has_one_value : IsSampleOf divider ((pos 0 ∷ pos 0 ∷ []) ∷ []) 0 → ⊥
unfolding history_upto
rest_has_one_value sample = grind (arith, sample.values)

nanovolt_too_few : IsSampleOf divider ((pos 0 ∷ []) ∷ (pos (50 * 10 ^ 9 - 1) ∷ []) ∷ []) 1 → ⊥
unfolding history_upto next network_part part_at voltages_of right nodal_matrix outcome row_fault right_fault unknown_fault stage stage_right last_unknowns near near_abs capacitor_impedance next_state active_value control_step blocks.control_matrix blocks.right blocks.outputs blocks.states_after
nanovolt_too_few sample = grind (arith, sample.values)

sample_of_rest_again : IsSampleOf divider ((pos 0 ∷ []) ∷ (pos 0 ∷ []) ∷ []) 1 → ⊥
unfolding history_upto next network_part part_at voltages_of right nodal_matrix outcome row_fault right_fault unknown_fault stage stage_right last_unknowns near near_abs capacitor_impedance next_state active_value control_step blocks.control_matrix blocks.right blocks.outputs blocks.states_after
sample_of_rest_again sample = grind (arith, sample.values)

voltage_of_source : IsSampleOf divider ((pos 0 ∷ []) ∷ (pos (100 * 10 ^ 9) ∷ []) ∷ []) 1 → ⊥
unfolding history_upto next network_part part_at voltages_of right nodal_matrix outcome row_fault right_fault unknown_fault stage stage_right last_unknowns near near_abs capacitor_impedance next_state active_value control_step blocks.control_matrix blocks.right blocks.outputs blocks.states_after
voltage_of_source sample = grind (arith, sample.values)

-- ---- an end names a step and a node

abbrev ends_at : ℕ → List ℕ → End
ends_at step name = record { step = step; name = name; cause = Tied; measured = pos 0 }

ends_in_last_step : IsEnd divider (ends_at 9 (77 ∷ []))
ends_in_last_step = record { some = omega arith; within = omega arith; named = inl (1, omega arith, refl) }

ends_at_rest : IsEnd divider (ends_at 0 (77 ∷ [])) → ⊥
ends_at_rest is = grind arith

ends_after_last_step : IsEnd divider (ends_at 10 (77 ∷ [])) → ⊥
ends_after_last_step is = grind arith
