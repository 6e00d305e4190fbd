-- The residuals by row.
use Rattle.std.proofs.Common.{◌≡◌, ◌∙◌, sym, ap, ℕ, ◌<◌, ◌≤◌, ◌≤ℤ◌, IfSome, ℤ, pos, unsigned_abs, nat_lt, true, false, List, length, map, Option, Some, None, refl, arith}
use Rattle.std.specs.List.{range_with_len}
use Rattle.std.proofs.lemmas.Bool.Decides.{nat_tests}
use Rattle.std.proofs.lemmas.Int.{ints}
use Rattle.std.proofs.lemmas.List.{ext_get_or}
use Rattle.std.proofs.lemmas.List.FromFn.{get_or-map-range_with_len, length-map-range_with_len}
use Rattle.emtp_case.proofs.Places.{first_at, first_none}
use Rattle.emtp_case.specs.StepRecord.{BranchState, StepRecord}
use Rattle.emtp_case.specs.declared.case.Parts.{Parts}
use Rattle.emtp_case.specs.declared.row_kind.RowKind.{RowKind}
use Rattle.emtp_case.specs.declared.row_kind.RowKind.TheVariants.{Kcl, Sum, Tie, Ground, Source}
use Rattle.emtp_elim.specs.Matrix.{item}
use Rattle.emtp_net.proofs.Righting.{group_sums}
use Rattle.emtp_net.specs.held.Judging.{IsUnbalanced, Judges, magnitude_at, magnitude_in}
use Rattle.emtp_net.specs.Part.{leaving, leaving_rows}
use Rattle.emtp_net.specs.Residual.{residual_by, residual_of}
use Rattle.emtp_net.specs.held.Sums.{group_total}
use Rattle.emtp_net.specs.System.{kinds_of}
use Rattle.emtp_rows.specs.Nodal.{group_sum, kind_at, node_at}

-- ---- what leaves the nodes

pub leaving_is : (case : Parts) (H : List StepRecord) (branches : List BranchState) (out : List ℤ) → length out ≡ length case.nodes → ((j : ℕ) → j < length case.nodes → item out j ≡ leaving case H branches (node_at case j)) → out ≡ leaving_rows case H branches
leaving_is case H branches out long each =
    let f : ℕ → ℤ = λ i. leaving case H branches (node_at case i) in
    ext_get_or (pos 0) out (map f (range_with_len 0 (length case.nodes))) (long ∙ sym (length-map-range_with_len f 0 (length case.nodes))) (λ j inside.
    let below : j < length case.nodes = omega (arith, inside, long) in
    each j below ∙ sym (get_or-map-range_with_len f 0 (length case.nodes) j j (pos 0) below (omega arith)))

-- ---- residuals

is_above : (a b : ℕ) → a < b → nat_lt a b ≡ true
is_above a b less = grind (arith, nat_tests)

isnt_above : (a b : ℕ) → b ≤ a → nat_lt a b ≡ false
isnt_above a b more = grind (arith, nat_tests)

by_kind : (case : Parts) (H : List StepRecord) (branches : List BranchState) (kinds : List RowKind) (sums folded : List ℤ) (j : ℕ) (kind : RowKind) → kinds ≡ kinds_of case H → length kinds ≡ length case.nodes → j < length case.nodes
    → ((k : ℕ) → k < length case.nodes → item sums k ≡ leaving case H branches (node_at case k))
    → (kind_at kinds j ≡ Sum → item folded j ≡ group_total kinds (item sums) j) → (kind_at kinds j ≡ Kcl → item folded j ≡ item sums j) → kind_at kinds j ≡ kind
    → magnitude_in (item folded j) kind ≡ residual_by case H branches j kind
by_kind case H branches kinds sums folded j Kcl are size below each sum node here = ap unsigned_abs (node here ∙ each j below)
by_kind case H branches kinds sums folded j Sum are size below each sum node here =
    ap unsigned_abs (sum here ∙ group_sums case kinds (leaving case H branches) sums j size each ∙ ap (λ ks. group_sum case ks j (leaving case H branches)) are)
by_kind case H branches kinds sums folded j (Tie row) are size below each sum node here = refl
by_kind case H branches kinds sums folded j Ground are size below each sum node here = refl
by_kind case H branches kinds sums folded j Source are size below each sum node here = refl

pub judged : (case : Parts) (H : List StepRecord) (branches : List BranchState) (kinds : List RowKind) (sums folded : List ℤ) (result : Option (ℕ × ℤ)) → kinds ≡ kinds_of case H → length kinds ≡ length case.nodes → length folded ≡ length case.nodes → sums ≡ leaving_rows case H branches
    → ((j : ℕ) → j < length case.nodes → kind_at kinds j ≡ Sum → item folded j ≡ group_total kinds (item sums) j)
    → ((j : ℕ) → j < length case.nodes → kind_at kinds j ≡ Kcl → item folded j ≡ item sums j)
    → IsUnbalanced kinds folded (unsigned_abs case.run.tolerance) result → Judges result case H branches
judged case H branches kinds sums folded result are size long leave sum node above =
    let f : ℕ → ℤ = λ i. leaving case H branches (node_at case i) in
    let each : (k : ℕ) → k < length case.nodes → item sums k ≡ leaving case H branches (node_at case k) = λ k below. ap (λ xs. item xs k) leave ∙ get_or-map-range_with_len f 0 (length case.nodes) k k (pos 0) below (omega arith) in
    let magnitude : (j : ℕ) → j < length case.nodes → magnitude_at kinds folded j ≡ residual_of case H branches j =
    λ j below. by_kind case H branches kinds sums folded j (kind_at kinds j) are size below each (sum j below) (node j below) refl ∙ ap (λ ks. residual_by case H branches j (kind_at ks j)) are in
    by_result result above magnitude
  where
    by_result : (result : Option (ℕ × ℤ)) → IsUnbalanced kinds folded (unsigned_abs case.run.tolerance) result → ((j : ℕ) → j < length case.nodes → magnitude_at kinds folded j ≡ residual_of case H branches j) → Judges result case H branches
    by_result None above magnitude =
        first_none (λ i. nat_lt (unsigned_abs case.run.tolerance) (residual_of case H branches i)) (length case.nodes) (λ k below. isnt_above (unsigned_abs case.run.tolerance) (residual_of case H branches k) (omega (arith, above k (omega (arith, below, long)), magnitude k below)))
    by_result (Some p) above magnitude =
        let inside : p.0 < length case.nodes = omega (arith, above.within, long) in (
          first_at (λ i. nat_lt (unsigned_abs case.run.tolerance) (residual_of case H branches i)) (length case.nodes) p.0 inside
              (λ k less. isnt_above (unsigned_abs case.run.tolerance) (residual_of case H branches k) (omega (arith, above.earlier k less, magnitude k (omega (arith, less, inside)))))
              (is_above (unsigned_abs case.run.tolerance) (residual_of case H branches p.0) (omega (arith, above.above, magnitude p.0 inside))),
          above.is ∙ ap pos (magnitude p.0 inside),
          inside,
        )

pub judged_there : (kinds : List RowKind) (sums : List ℤ) (limit : ℕ) (result : Option (ℕ × ℤ)) (n : ℕ) → length sums ≡ n → IsUnbalanced kinds sums limit result → IfSome result (λ p. p.0 < n)
judged_there kinds sums limit None n long above = tt
judged_there kinds sums limit (Some p) n long above = omega (arith, above.within, long)

pub judged_magnitude : (kinds : List RowKind) (sums : List ℤ) (limit : ℕ) (result : Option (ℕ × ℤ)) → IsUnbalanced kinds sums limit result → IfSome result (λ p. pos 0 ≤ℤ p.1)
judged_magnitude kinds sums limit None above = tt
judged_magnitude kinds sums limit (Some p) above = omega (arith, ints, above.is)
