-- The right side, by row.
use Rattle.std.proofs.Common.{◌≡◌, ◌∙◌, sym, ap, ℕ, ◌<◌, ℤ, pos, if◌then◌else◌, List, length, map, slice_index, refl, arith}
use Rattle.std.specs.List.{range_with_len}
use Rattle.std.proofs.lemmas.List.{ext_get_or}
use Rattle.std.proofs.lemmas.List.FromFn.{get_or-map-range_with_len, length-map-range_with_len}
use Rattle.emtp_case.specs.Source.{is_voltage_source_at}
use Rattle.emtp_case.specs.StepRecord.{StepRecord}
use Rattle.emtp_case.specs.declared.case.Parts.{Parts}
use Rattle.emtp_case.specs.declared.row_kind.RowKind.{RowKind}
use Rattle.emtp_case.specs.declared.row_kind.RowKind.TheVariants.{Kcl, Sum, Tie, Ground, Source as SourceRow}
use Rattle.emtp_elim.specs.Matrix.{item}
use Rattle.emtp_net.proofs.Sourcing.{voltage_is}
use Rattle.emtp_net.specs.held.Rights.{place_at, places_of, row_value}
use Rattle.emtp_net.specs.held.Sums.{group_total}
use Rattle.emtp_net.specs.System.{kinds_of, right, right_by, right_current, source_value, voltage_of}
use Rattle.emtp_net.specs.held.System.{source_values}
use Rattle.emtp_case.proofs.Sums.{sum_below_same}
use Rattle.emtp_case.specs.Sums.{sum_below}
use Rattle.emtp_rows.specs.Nodal.{group_sum, is_member, kind_at, node_at}

-- the sum over the group of a row, of sums that are those of f at the nodes of the rows
pub group_sums : (case : Parts) (kinds : List RowKind) (f : ℕ → ℤ) (sums : List ℤ) (j : ℕ) → length kinds ≡ length case.nodes → ((k : ℕ) → k < length case.nodes → item sums k ≡ f (node_at case k)) → group_total kinds (item sums) j ≡ group_sum case kinds j f
group_sums case kinds f sums j size each =
    let F : ℕ → ℤ = λ k. if is_member kinds j k then item sums k else pos 0 in
    let G : ℕ → ℤ = λ k. if is_member kinds j k then f (node_at case k) else pos 0 in
    sum_below_same (length kinds) F G (λ k below. ap (λ x. if is_member kinds j k then x else pos 0) (each k (omega (arith, below, size)))) ∙ ap (λ n. sum_below n G) size

-- the voltage of the source of a row
voltage_here : (case : Parts) (H : List StepRecord) (values : List ℤ) (places : List ℕ) (j : ℕ) → values ≡ source_values case H → places ≡ places_of case → j < length case.nodes → item values (slice_index places j) ≡ voltage_of case H (node_at case j)
voltage_here case H values places j are at below =
    let place : slice_index places j ≡ place_at case j = ap (λ ps. slice_index ps j) at ∙ get_or-map-range_with_len (place_at case) 0 (length case.nodes) j j 0 below (omega arith) in
    ap (item values) place ∙ ap (λ vs. item vs (place_at case j)) are ∙ voltage_is (source_value case H) (is_voltage_source_at (node_at case j)) case.sources

-- a row of a kind
by_kind : (case : Parts) (H : List StepRecord) (kinds : List RowKind) (sums folded values : List ℤ) (places : List ℕ) (j : ℕ) (kind : RowKind) → kinds ≡ kinds_of case H → length kinds ≡ length case.nodes → values ≡ source_values case H → places ≡ places_of case → j < length case.nodes
    → ((k : ℕ) → k < length case.nodes → item sums k ≡ right_current case H (node_at case k))
    → (kind_at kinds j ≡ Sum → item folded j ≡ group_total kinds (item sums) j) → (kind_at kinds j ≡ Kcl → item folded j ≡ item sums j) → kind_at kinds j ≡ kind
    → row_value (item folded j) (item values (slice_index places j)) kind ≡ right_by case H j kind
by_kind case H kinds sums folded values places j Kcl are size is at below each sum node here = node here ∙ each j below
by_kind case H kinds sums folded values places j Sum are size is at below each sum node here =
    sum here ∙ group_sums case kinds (right_current case H) sums j size each ∙ ap (λ ks. group_sum case ks j (right_current case H)) are
by_kind case H kinds sums folded values places j (Tie row) are size is at below each sum node here = refl
by_kind case H kinds sums folded values places j Ground are size is at below each sum node here = refl
by_kind case H kinds sums folded values places j SourceRow are size is at below each sum node here = voltage_here case H values places j is at below

-- the right side
pub right_is : (case : Parts) (H : List StepRecord) (kinds : List RowKind) (sums folded out values : List ℤ) (places : List ℕ) → kinds ≡ kinds_of case H → length kinds ≡ length case.nodes → values ≡ source_values case H → places ≡ places_of case → length out ≡ length case.nodes
    → ((k : ℕ) → k < length case.nodes → item sums k ≡ right_current case H (node_at case k))
    → ((j : ℕ) → j < length case.nodes → kind_at kinds j ≡ Sum → item folded j ≡ group_total kinds (item sums) j)
    → ((j : ℕ) → j < length case.nodes → kind_at kinds j ≡ Kcl → item folded j ≡ item sums j)
    → ((j : ℕ) → j < length case.nodes → item out j ≡ row_value (item folded j) (item values (slice_index places j)) (kind_at kinds j)) → out ≡ right case H
unfolding right
right_is case H kinds sums folded out values places are size is at long each sum node set =
    let f : ℕ → ℤ = λ i. right_by case H i (kind_at (kinds_of case H) i) in
    ext_get_or (pos 0) out (map f (range_with_len 0 (length case.nodes))) (long ∙ sym (length-map-range_with_len f 0 (length case.nodes))) (λ j inside.
    let below : j < length case.nodes = omega (arith, inside, long) in
    set j below
    ∙ by_kind case H kinds sums folded values places j (kind_at kinds j) are size is at below each (sum j below) (node j below) refl
    ∙ ap (λ ks. right_by case H j (kind_at ks j)) are
    ∙ sym (get_or-map-range_with_len f 0 (length case.nodes) j j (pos 0) below (omega arith)))
