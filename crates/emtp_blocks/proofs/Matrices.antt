-- The matrix of the blocks, entry by entry.
use Rattle.emtp_fix.specs.declared.limit.TheConstants.{LARGEST_COEFFICIENT}
use Rattle.std.proofs.Common.{◌≡◌, ◌∙◌, sym, ap, ℕ, ◌^◌, ◌<◌, ◌≤◌, ◌==◌, ℤ, pos, unsigned_abs, List, [], length, slice_index_or, slice_get, Option, Some, inl, inr, arith}
use Rattle.std.proofs.lemmas.Bool.{cases_lt, cases_Bool}
use Rattle.std.proofs.lemmas.Int.{ints}
use Rattle.std.proofs.lemmas.List.{get_or_past, ext_get_or}
use Rattle.std.proofs.lemmas.List.FromFn.{length-map-range_with_len, get_or-map-range_with_len}
use Rattle.std.proofs.lemmas.Option.{slice_get-get_or}
use Rattle.emtp_elim.specs.Matrix.{item, row_of, entry}
use Rattle.emtp_elim.specs.held.Rows.{IsLawful}
use Rattle.emtp_case.specs.held.Case.{IsCase}
use Rattle.emtp_case.specs.held.Sizes.{sizes_of}
use Rattle.emtp_case.specs.Control.{step_gain}
use Rattle.emtp_case.specs.held.Control.{IsBlock}
use Rattle.emtp_case.specs.declared.case.Parts.{Parts}
use Rattle.emtp_case.specs.declared.control.Block.{Block}
use Rattle.emtp_case.specs.declared.control.Input.{Input}
use Rattle.emtp_case.specs.declared.control.Limiter.{Limiter}
use Rattle.emtp_case.specs.declared.control.Limiter.TheVariants.{Free, AtHigh, AtLow}
use Rattle.emtp_blocks.specs.System.{block_of, control_matrix, entry_by, row_entry, unit}
use Rattle.emtp_blocks.proofs.Couplings.{couplings_small}

pub length-control_matrix : (case : Parts) (ls : List Limiter) → length (control_matrix case ls) ≡ length case.blocks
unfolding control_matrix
length-control_matrix case ls = length-map-range_with_len _ 0 (length case.blocks)

pub length-control_row : (case : Parts) (ls : List Limiter) (i : ℕ) → i < length case.blocks → length (row_of (control_matrix case ls) i) ≡ length case.blocks
unfolding control_matrix
length-control_row case ls i below = ap length (get_or-map-range_with_len _ 0 (length case.blocks) i i [] below (omega arith)) ∙ length-map-range_with_len _ 0 (length case.blocks)

pub control_entry : (case : Parts) (ls : List Limiter) (i j : ℕ) → i < length case.blocks → j < length case.blocks → entry (control_matrix case ls) i j ≡ entry_by case ls i j (slice_get case.blocks i)
unfolding control_matrix
control_entry case ls i j below within =
    ap (λ row. item row j) (get_or-map-range_with_len _ 0 (length case.blocks) i i [] below (omega arith))
    ∙ get_or-map-range_with_len _ 0 (length case.blocks) j j (pos 0) within (omega arith)

-- a row by its entries
pub row_is : (case : Parts) (ls : List Limiter) (i : ℕ) (b : Block) (out : List ℤ) → i < length case.blocks → length out ≡ length case.blocks → slice_get case.blocks i ≡ Some b
    → ((j : ℕ) → j < length out → item out j ≡ row_entry (block_of case) (step_gain case.run.dt b) b.inputs (slice_index_or ls i Free) i j) → out ≡ row_of (control_matrix case ls) i
row_is case ls i b out below long here each = ext_get_or (pos 0) out (row_of (control_matrix case ls) i) (long ∙ sym (length-control_row case ls i below))
    (λ j inside. let within : j < length case.blocks = omega (arith, inside, long) in
    each j inside ∙ sym (ap (entry_by case ls i j) here) ∙ sym (control_entry case ls i j below within))

unit_small : (i j : ℕ) → unsigned_abs (unit i j) ≤ 10 ^ 12
unit_small i j = elim (cases_Bool (i == j)) [
  | inl same ↦ rw same (omega (arith, ints))
  | inr off ↦ rw off (omega (arith, ints))
]

row_small : (place : ℕ → Option ℕ) (k : ℤ) (inputs : List Input) (l : Limiter) (i j : ℕ) → unsigned_abs k ≤ LARGEST_COEFFICIENT → length inputs ≤ 5 → unsigned_abs (row_entry place k inputs l i j) ≤ 10 ^ 26
row_small place k inputs Free i j small few = omega (arith, ints, unit_small i j, couplings_small k j place inputs small few)
row_small place k inputs AtHigh i j small few = omega (arith, unit_small i j)
row_small place k inputs AtLow i j small few = omega (arith, unit_small i j)

entry_small : (case : Parts) (ls : List Limiter) (i j : ℕ) (b : Block) → IsBlock case.run (sizes_of case) b → unsigned_abs (entry_by case ls i j (Some b)) ≤ 10 ^ 26
entry_small case ls i j b fits = row_small (block_of case) (step_gain case.run.dt b) b.inputs (slice_index_or ls i Free) i j fits.within_step fits.few_inputs

pub control_lawful : (case : Parts) (ls : List Limiter) (d : Block) → IsCase case → IsLawful (control_matrix case ls) 0
control_lawful case ls d fits = record {
  few = omega (arith, length-control_matrix case ls, fits.draft.counts.blocks);
  square = λ i below. length-control_row case ls i (omega (arith, below, length-control_matrix case ls)) ∙ sym (length-control_matrix case ls);
  fixed_first = omega arith;
  units = λ i below. absurd (omega (arith, below));
  limit = λ i j. elim (cases_lt i (length case.blocks)) [
    | inl below ↦ elim (cases_lt j (length case.blocks)) [
      | inl within ↦ rw (control_entry case ls i j below within, slice_get-get_or case.blocks i d below) (entry_small case ls i j _ (fits.draft.control.blocks i d below))
      | inr past ↦ rw (get_or_past (row_of (control_matrix case ls) i) j (pos 0) (omega (arith, past, length-control_row case ls i below))) (omega (arith, ints))
    ]
    | inr past ↦ rw (ap (λ row. item row j) (get_or_past (control_matrix case ls) i [] (omega (arith, past, length-control_matrix case ls)))) (omega (arith, ints))
  ];
}
