-- Small runs, worked out by hand: a source that ends, a mirrored run with a control, blocks.
use Rattle.std.proofs.Common.{◌≡◌, ◌^◌, ◌+◌, ◌*◌, ◌++◌, ℕ, ℤ, pos, neg_ℤ, false, List, [], ◌∷◌, map, replicate, Option, Some, None, Ok, refl}
use Rattle.std.specs.Prelude.{codes}
use Rattle.emtp_blocks.specs.Block.{next_state}
use Rattle.emtp_blocks.specs.System as blocks
use Rattle.emtp_case.specs.Branch.{capacitor_impedance}
use Rattle.emtp_case.specs.Case.{empty_parts, standing_names}
use Rattle.emtp_case.specs.StepRecord.{StepRecord, rest_of}
use Rattle.emtp_case.specs.declared.branch.Branch.TheVariants.{Lumped as OfLumped}
use Rattle.emtp_case.specs.declared.case.Parts.{Parts}
use Rattle.emtp_case.specs.declared.control.Block.{Block}
use Rattle.emtp_case.specs.declared.control.Bound.TheVariants.{Fixed}
use Rattle.emtp_case.specs.declared.control.Limiter.TheVariants.{AtHigh}
use Rattle.emtp_case.specs.declared.run_data.RunData.{RunData}
use Rattle.emtp_case.specs.declared.source.Shape.TheVariants.{Step}
use Rattle.emtp_case.specs.declared.source.Source.{Source}
use Rattle.emtp_elim.specs.Elimination.{last_unknowns, stage, stage_right}
use Rattle.emtp_elim.specs.Fault.{right_fault, row_fault, unknown_fault}
use Rattle.emtp_elim.specs.Outcome.{outcome}
use Rattle.emtp_fix.specs.Rounding.{near, near_abs}
use Rattle.emtp_lumped.specs.Step.{next_state as next_lumped}
use Rattle.emtp_machine.specs.History.{history_upto}
use Rattle.emtp_machine.specs.Laws.{records_upto}
use Rattle.emtp_machine.specs.Next.{next}
use Rattle.emtp_net.specs.Part.{part_at, voltages_of}
use Rattle.emtp_net.specs.Step.{network_part}
use Rattle.emtp_net.specs.System.{right}
use Rattle.emtp_rows.specs.Nodal.{nodal_matrix}
use Rattle.emtp_tacs.specs.Step.{Measured, control_step}
use Rattle.emtp_wave.specs.Wave.{active_value}
use Rattle.emtp_laws.specs.Causality.{DifferInLaterStops, as_far_as}
use Rattle.emtp_laws.specs.Control.{solved_output}
use Rattle.emtp_laws.specs.Mirror.{bare_records, mirror_image, without_control}

abbrev run : RunData
run = record { dt = pos (10 ^ 8); steps = 9; every = 4; tolerance = pos (10 ^ 7) }

-- ---- a source of 100 V at 1 ohm, with an end or without one

abbrev source_until : Option ℤ → Source
source_until stop = record { line = 3; node = 1; current = false; shape = Step; amplitude = pos (100 * 10 ^ 9); start = pos 0; stop = stop }

feeding : Option ℤ → Parts
feeding stop = record (empty_parts run) {
  nodes = codes "SRC" ∷ [];
  branches = OfLumped (record { line = 1; «from» = 1; to = 0; r = pos (10 ^ 6); l = pos 0; c = pos 0 }) ∷ [];
  sources = source_until stop ∷ [];
}

voltages_upto : Parts → ℕ → List (List ℤ)
voltages_upto case n = map (λ (r : StepRecord). r.voltages) (records_upto case n)

-- one that ends at the time of step 1 and one that doesn't differ in a later end alone, as far as that step; a picosecond later
-- the end is seen
later_end : DifferInLaterStops 1 (feeding None) (feeding (Some (pos (10 ^ 8))))
unfolding feeding
later_end = record { else_same = refl; network = refl; control = refl }

not_longer : as_far_as (pos (10 ^ 8 + 1)) (source_until (Some (pos (10 ^ 8)))) ≡ source_until (Some (pos (10 ^ 8)))
not_longer = refl

-- and so are their records: 0 V at rest and 100 V in step 1; in step 2 they have 0 V and 100 V
with_an_end : voltages_upto (feeding (Some (pos (10 ^ 8)))) 2 ≡ (pos 0 ∷ pos 0 ∷ []) ∷ (pos 0 ∷ pos (100 * 10 ^ 9) ∷ []) ∷ (pos 0 ∷ pos 0 ∷ []) ∷ []
unfolding history_upto next network_part part_at voltages_of right nodal_matrix outcome row_fault right_fault unknown_fault stage stage_right last_unknowns near near_abs capacitor_impedance next_lumped active_value control_step blocks.control_matrix blocks.right blocks.outputs blocks.states_after feeding voltages_upto
with_an_end = refl

without_end : voltages_upto (feeding None) 2 ≡ (pos 0 ∷ pos (100 * 10 ^ 9) ∷ []) ∷ (pos 0 ∷ pos (100 * 10 ^ 9) ∷ []) ∷ (pos 0 ∷ pos 0 ∷ []) ∷ []
unfolding history_upto next network_part part_at voltages_of right nodal_matrix outcome row_fault right_fault unknown_fault stage stage_right last_unknowns near near_abs capacitor_impedance next_lumped active_value control_step blocks.control_matrix blocks.right blocks.outputs blocks.states_after feeding voltages_upto
without_end = refl

-- ---- a block of order 0 with the input PLUS1, whose output of 30 is limited to 20

limited : Block
limited = record {
  line = 5;
  var = 6;
  order = 0;
  inputs = record { var = 4; minus = false } ∷ [];
  gain = pos (30 * 10 ^ 12);
  top = replicate 8 (pos 0);
  bottom = replicate 8 (pos 0);
  low = Fixed (neg_ℤ (pos (20 * 10 ^ 9)));
  high = Fixed (pos (20 * 10 ^ 9));
}

controlled : Parts
controlled = record (feeding None) { vars = standing_names ++ codes "OUT" ∷ []; blocks = limited ∷ [] }

nothing_measured : Measured
nothing_measured = record { voltages = []; currents = []; closed = [] }

-- in step 1 TIMEX and DELTAT are 100 us, ISTEP is 1, and the block's variable has its high limit
at_its_limit : control_step controlled (rest_of controlled ∷ []) nothing_measured
    ≡ Ok (record {
      values = pos (10 ^ 5) ∷ pos (10 ^ 9) ∷ pos (10 ^ 5) ∷ pos 0 ∷ pos (10 ^ 9) ∷ neg_ℤ (pos (10 ^ 9)) ∷ pos (20 * 10 ^ 9) ∷ [];
      blocks = record { limiter = AtHigh; errors = replicate 8 (pos 0); chain = replicate 8 (pos 0) } ∷ [];
      devices = [];
    })
unfolding control_step blocks.control_matrix blocks.right blocks.outputs blocks.states_after outcome row_fault right_fault unknown_fault stage stage_right last_unknowns near near_abs next_state feeding limited controlled nothing_measured
at_its_limit = refl

-- it stands alone: of an input of 3 elimination finds 90, 30 times as much
found_alone : solved_output controlled (rest_of controlled ∷ []) (pos 0 ∷ pos 0 ∷ pos 0 ∷ pos 0 ∷ pos (3 * 10 ^ 9) ∷ []) 0 ≡ pos (90 * 10 ^ 9)
unfolding blocks.control_matrix blocks.right stage stage_right last_unknowns near near_abs feeding limited controlled
found_alone = refl

-- with this control the network's record is mirrored too
mirrored_beside_it : without_control (records_upto (mirror_image controlled) 1) ≡ bare_records (records_upto controlled 1)
unfolding history_upto next network_part part_at voltages_of right nodal_matrix outcome row_fault right_fault unknown_fault stage stage_right last_unknowns near near_abs capacitor_impedance next_lumped active_value control_step blocks.control_matrix blocks.right blocks.outputs blocks.states_after next_state feeding limited controlled
mirrored_beside_it = refl
