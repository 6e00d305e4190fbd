-- What the sources bring to a node, one after another.
use Rattle.std.proofs.Common.{◌≡◌, ◌∙◌, sym, ap, ℕ, ◌+◌, ◌*◌, ◌<◌, ◌≤◌, ◌==◌, ◌&&◌, ℤ, pos, ◌+ℤ◌, unsigned_abs, Bool, true, false, if◌then◌else◌, List, length, take, get_or, ◌/◌, slice_set, get_or-set_same, get_or-set_other, inl, inr, arith}
use Rattle.std.proofs.lemmas.Int.{ints}
use Rattle.emtp_case.specs.Sums.{total}
use Rattle.emtp_case.specs.declared.source.Source.{Source}
use Rattle.emtp_case.specs.declared.case.Parts.{Parts}
use Rattle.emtp_case.specs.declared.row_kind.RowKind.{RowKind}
use Rattle.emtp_case.proofs.Sums.{total-more}
use Rattle.emtp_elim.specs.Matrix.{item}
use Rattle.std.proofs.lemmas.Bool.{cases_eq}
use Rattle.std.proofs.lemmas.List.FromFn.{fill_by_all, get_or-map-range_with_len, length-map-range_with_len}
use Rattle.emtp_case.specs.NodeRows.{kind_at, node_at}
use Rattle.emtp_admittance.specs.Admittances.{is_imaginary}
use Rattle.emtp_phasor.specs.held.HeldSources.{brought_by_row}
use Rattle.emtp_phasor.specs.Volts.{doubled_right_by, doubled_right, source_part, source_phasors_into}
use Rattle.emtp_phasor.proofs.Blocks.{even_real, half_even, half_odd, odd_imaginary}

pub source_more : (sources others : List Source) (imaginary : Bool) (n at : ℕ) (d x : Source) (before amount after : ℤ) → others ≡ sources → at < length sources → get_or others at d ≡ x
    → before ≡ total (λ (s : Source). if s.current && (s.node == n) then source_part imaginary s else pos 0) (take at sources)
    → amount ≡ (if x.current && (x.node == n) then source_part imaginary x else pos 0)
    → after ≡ before +ℤ amount
    → after ≡ total (λ (s : Source). if s.current && (s.node == n) then source_part imaginary s else pos 0) (take (at + 1) sources)
source_more sources others imaginary n at d x before amount after same inside is so_far here added =
    let F : Source → ℤ = λ s. if s.current && (s.node == n) then source_part imaginary s else pos 0 in
    let read : x ≡ get_or sources at d = sym is ∙ ap (λ xs. get_or xs at d) same in
    let more = total-more F sources at d inside in
    let value : amount ≡ F (get_or sources at d) = here ∙ ap F read in
    omega (arith, ints, so_far, added, value, more)

-- ---- what they bring to each row

pub brought_more : (case : Parts) (out : List ℤ) (row : ℕ) (v : ℤ) → row < length out → v ≡ source_phasors_into case (is_imaginary row) (node_at case (row / 2)) → ((k : ℕ) → k < row → item out k ≡ source_phasors_into case (is_imaginary k) (node_at case (k / 2)))
    → (k : ℕ) → k < row + 1 → item (slice_set out row v) k ≡ source_phasors_into case (is_imaginary k) (node_at case (k / 2))
brought_more case out row v inside is before k below = elim (cases_eq k row) [
  | inl same ↦ rw (same, get_or-set_same) is
  | inr ne ↦ rw get_or-set_other (before k (omega (arith, below, ne)))
]

pub small_more : (limit : ℕ) (out : List ℤ) (row : ℕ) (v : ℤ) → row < length out → unsigned_abs v ≤ limit → ((k : ℕ) → k < row → unsigned_abs (item out k) ≤ limit) → (k : ℕ) → k < row + 1 → unsigned_abs (item (slice_set out row v) k) ≤ limit
small_more limit out row v inside small before k below = elim (cases_eq k row) [
  | inl same ↦ rw (same, get_or-set_same) small
  | inr ne ↦ rw get_or-set_other (before k (omega (arith, below, ne)))
]

pub brought_all : (case : Parts) (out : List ℤ) (count : ℕ) → length out ≡ 2 * length case.nodes → length out ≤ count → ((k : ℕ) → k < count → item out k ≡ source_phasors_into case (is_imaginary k) (node_at case (k / 2))) → out ≡ brought_by_row case
unfolding brought_by_row
brought_all case out count long all each = fill_by_all (λ k. source_phasors_into case (is_imaginary k) (node_at case (k / 2))) out (2 * length case.nodes) (pos 0) long (λ k below. each k (omega (arith, below, long, all)))

-- what an index read
pub length-brought : (case : Parts) → length (brought_by_row case) ≡ 2 * length case.nodes
unfolding brought_by_row
length-brought case = length-map-range_with_len (λ k. source_phasors_into case (is_imaginary k) (node_at case (k / 2))) 0 (2 * length case.nodes)

brought_item : (case : Parts) (r : ℕ) → r < 2 * length case.nodes → item (brought_by_row case) r ≡ source_phasors_into case (is_imaginary r) (node_at case (r / 2))
unfolding brought_by_row
brought_item case r below = get_or-map-range_with_len (λ k. source_phasors_into case (is_imaginary k) (node_at case (k / 2))) 0 (2 * length case.nodes) r r (pos 0) below (omega arith)

pub brought_real : (case : Parts) (brought : List ℤ) (row : ℕ) → brought ≡ brought_by_row case → row < length case.nodes → item brought (2 * row) ≡ source_phasors_into case false (node_at case row)
brought_real case brought row are below =
    ap (λ xs. item xs (2 * row)) are
    ∙ brought_item case (2 * row) (omega (arith, below))
    ∙ ap (λ b. source_phasors_into case b (node_at case (2 * row / 2))) (even_real row)
    ∙ ap (λ k. source_phasors_into case false (node_at case k)) (half_even row)

pub brought_imaginary : (case : Parts) (brought : List ℤ) (row : ℕ) → brought ≡ brought_by_row case → row < length case.nodes → item brought (2 * row + 1) ≡ source_phasors_into case true (node_at case row)
brought_imaginary case brought row are below =
    ap (λ xs. item xs (2 * row + 1)) are
    ∙ brought_item case (2 * row + 1) (omega (arith, below))
    ∙ ap (λ b. source_phasors_into case b (node_at case ((2 * row + 1) / 2))) (odd_imaginary row)
    ∙ ap (λ k. source_phasors_into case true (node_at case k)) (half_odd row)

-- ---- the right side

pub right_more : (case : Parts) (kinds : List RowKind) (out : List ℤ) (row : ℕ) (v : ℤ) → row < length out → v ≡ doubled_right_by case kinds row (kind_at kinds (row / 2)) → ((k : ℕ) → k < row → item out k ≡ doubled_right_by case kinds k (kind_at kinds (k / 2)))
    → (k : ℕ) → k < row + 1 → item (slice_set out row v) k ≡ doubled_right_by case kinds k (kind_at kinds (k / 2))
right_more case kinds out row v inside is before k below = elim (cases_eq k row) [
  | inl same ↦ rw (same, get_or-set_same) is
  | inr ne ↦ rw get_or-set_other (before k (omega (arith, below, ne)))
]

pub right_all : (case : Parts) (kinds : List RowKind) (out : List ℤ) (count : ℕ) → length out ≡ 2 * length case.nodes → length out ≤ count → ((k : ℕ) → k < count → item out k ≡ doubled_right_by case kinds k (kind_at kinds (k / 2))) → out ≡ doubled_right case kinds
unfolding doubled_right
right_all case kinds out count long all each = fill_by_all (λ k. doubled_right_by case kinds k (kind_at kinds (k / 2))) out (2 * length case.nodes) (pos 0) long (λ k below. each k (omega (arith, below, long, all)))
