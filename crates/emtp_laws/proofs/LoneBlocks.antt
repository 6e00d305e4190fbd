-- A block that no other one reaches within a step has its own right side.
use Rattle.std.proofs.Common.{◌≡◌, ◌≢◌, ◌∙◌, ap, sym, ℕ, ◌<◌, ℤ, pos, List, [], ◌∷◌, length, slice_get, slice_index_or, Some, None, All, refl, inl, inr, arith}
use Rattle.std.proofs.lemmas.Bool.{cases_lt}
use Rattle.std.proofs.lemmas.Bool.Decides.{nat_tests}
use Rattle.std.proofs.lemmas.Int.{ints}
use Rattle.std.proofs.lemmas.List.{get_or_past}
use Rattle.std.proofs.lemmas.List.Elements.{All-head, All-tail}
use Rattle.std.proofs.lemmas.List.FromFn.{get_or-map-range_with_len, length-map-range_with_len}
use Rattle.std.proofs.lemmas.Option.{slice_get_within}
use Rattle.emtp_blocks.proofs.Matrices.{control_entry, control_lawful, length-control_matrix, length-control_row}
use Rattle.emtp_blocks.specs.System.{block_of, coupling_by, entry_by, limiters_of, matrix, right, right_by, row_entry, state_at, unit}
use Rattle.emtp_case.specs.held.Case.{IsCase}
use Rattle.emtp_case.specs.Control.{step_gain}
use Rattle.emtp_case.specs.StepRecord.{StepRecord}
use Rattle.emtp_case.specs.Sums.{total}
use Rattle.emtp_case.specs.declared.case.Parts.{Parts}
use Rattle.emtp_case.specs.declared.control.Block.{Block}
use Rattle.emtp_case.specs.declared.control.Input.{Input}
use Rattle.emtp_case.specs.declared.control.Limiter.{Limiter}
use Rattle.emtp_case.specs.declared.control.Limiter.TheVariants.{AtHigh, AtLow, Free}
use Rattle.emtp_elim.proofs.UnitRows.{unit_solved}
use Rattle.emtp_elim.specs.Matrix.{entry, item, row_of}
use Rattle.emtp_elim.specs.held.Rows.{IsUnitRow}
use Rattle.emtp_fix.specs.declared.limit.TheConstants.{PICO}
use Rattle.emtp_laws.specs.Control.{IsExactAlone, StandsAlone}

unit_own : (i : ℕ) → unit i i ≡ PICO
unit_own i = grind (arith, nat_tests)

unit_other : (i j : ℕ) → j ≢ i → unit i j ≡ pos 0
unit_other i j ne = grind (arith, nat_tests)

-- inputs that are no outputs of blocks couple with none
no_coupling : (case : Parts) (k : ℤ) (j : ℕ) (inputs : List Input) → All (λ (i : Input). block_of case i.var ≡ None) inputs → total (λ n. coupling_by k j n (block_of case n.var)) inputs ≡ pos 0
no_coupling case k j [] all = refl
no_coupling case k j (n ∷ inputs) all =
    let here = ap (coupling_by k j n) (All-head (λ (i : Input). block_of case i.var ≡ None) n inputs all) in
    let rest = no_coupling case k j inputs (All-tail (λ (i : Input). block_of case i.var ≡ None) n inputs all) in
    omega (arith, ints, here, rest)

-- its row is that of the unit matrix
lone_entry : (case : Parts) (k : ℤ) (b : Block) (l : Limiter) (i j : ℕ) → StandsAlone case b l → row_entry (block_of case) k b.inputs l i j ≡ unit i j
lone_entry case k b Free i j alone = omega (arith, ints, no_coupling case k j b.inputs alone)
lone_entry case k b AtHigh i j alone = refl
lone_entry case k b AtLow i j alone = refl

-- where the limiter of the last record stands
limiter_at : (case : Parts) (H : List StepRecord) (i : ℕ) → i < length case.blocks → slice_index_or (limiters_of case H) i Free ≡ (state_at H i).limiter
limiter_at case H i below = get_or-map-range_with_len (λ n. (state_at H n).limiter) 0 (length case.blocks) i i Free below (omega arith)

entry_is : (case : Parts) (H : List StepRecord) (i j : ℕ) (b : Block) → i < length case.blocks → j < length case.blocks → slice_get case.blocks i ≡ Some b → StandsAlone case b (state_at H i).limiter → entry (matrix case H) i j ≡ unit i j
entry_is case H i j b below within here alone =
    control_entry case (limiters_of case H) i j below within
    ∙ ap (entry_by case (limiters_of case H) i j) here
    ∙ ap (λ l. row_entry (block_of case) (step_gain case.run.dt b) b.inputs l i j) (limiter_at case H i below)
    ∙ lone_entry case (step_gain case.run.dt b) b (state_at H i).limiter i j alone

unit_row : (case : Parts) (H : List StepRecord) (i : ℕ) (b : Block) → i < length case.blocks → slice_get case.blocks i ≡ Some b → StandsAlone case b (state_at H i).limiter → IsUnitRow (matrix case H) i
unit_row case H i b below here alone = record {
  own = entry_is case H i i b below below here alone ∙ unit_own i;
  others = λ j ne. elim (cases_lt j (length case.blocks)) [
    | inl within ↦ entry_is case H i j b below within here alone ∙ unit_other i j ne
    | inr past ↦ get_or_past (row_of (matrix case H) i) j (pos 0) (omega (arith, past, length-control_row case (limiters_of case H) i below))
  ];
}

length-right : (case : Parts) (H : List StepRecord) (known : List ℤ) → length (right case H known) ≡ length case.blocks
unfolding right
length-right case H known = length-map-range_with_len _ 0 (length case.blocks)

right_at : (case : Parts) (H : List StepRecord) (known : List ℤ) (i : ℕ) → i < length case.blocks → item (right case H known) i ≡ right_by case H known i (slice_get case.blocks i)
unfolding right
right_at case H known i below = get_or-map-range_with_len _ 0 (length case.blocks) i i (pos 0) below (omega arith)

pub alone_solved : (case : Parts) (H : List StepRecord) (known : List ℤ) (i : ℕ) → IsCase case → IsExactAlone case H known i
alone_solved case H known i fits b here alone =
    let below : i < length case.blocks = slice_get_within case.blocks i b here in
    let rows = length-control_matrix case (limiters_of case H) in
    let lawful = control_lawful case (limiters_of case H) b fits in
    unit_solved (matrix case H) (right case H known) i lawful.square (length-right case H known ∙ sym rows) (omega (arith, below, rows)) (unit_row case H i b below here alone)
    ∙ right_at case H known i below
    ∙ ap (right_by case H known i) here
