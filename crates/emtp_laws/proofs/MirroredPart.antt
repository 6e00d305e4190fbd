-- The part that the voltages of a mirrored case make is the mirror image.
use Rattle.std.proofs.Common.{◌≡◌, ◌∙◌, ◌==◌, not, ℕ, ℤ, pos, neg_ℤ, if◌then◌else◌, nat_le, unsigned_abs, Bool, List, ◌∷◌, map, length, slice_get, slice_index, Option, Some, None, is_none, option_map, unwrap_or, refl, ap, sym, arith}
use Rattle.std.specs.List.{position, position_or_len, range_with_len}
use Rattle.std.proofs.Math.Path.{fun_ext}
use Rattle.std.proofs.lemmas.Int.{ints}
use Rattle.std.proofs.lemmas.List.{length-map}
use Rattle.std.proofs.lemmas.Option.{slice_get-map}
use Rattle.std.proofs.lemmas.Simd.{map-map}
use Rattle.emtp_case.specs.RowOrder.{Rows, order_of}
use Rattle.emtp_case.specs.StepRecord.{BranchState, LumpedBranch, StepRecord, no_lumped}
use Rattle.emtp_case.specs.declared.case.Parts.{Parts}
use Rattle.emtp_case.specs.declared.row_kind.RowKind.{RowKind}
use Rattle.emtp_case.specs.declared.row_kind.RowKind.TheVariants.{Kcl, Sum, Tie, Ground, Source as SourceRow}
use Rattle.emtp_case.specs.declared.switch.Switch.{Switch}
use Rattle.emtp_case.specs.declared.switch.SwitchState.{SwitchState}
use Rattle.emtp_elim.specs.Matrix.{item}
use Rattle.emtp_elim.specs.held.Matrix.{opposites}
use Rattle.emtp_fix.specs.Limit.{is_within}
use Rattle.emtp_fix.specs.declared.limit.TheConstants.{LARGEST_VALUE}
use Rattle.emtp_net.specs.Part.{NetworkPart, brought_by, first_out, leaving, leaving_rows, part_at, state_at, states_at, switch_currents_at, voltages_of}
use Rattle.emtp_net.specs.Residual.{residual_by, residual_of}
use Rattle.emtp_net.specs.Step.{first_beyond}
use Rattle.emtp_net.specs.System.{kinds_of}
use Rattle.emtp_rows.specs.Nodal.{group_sum, kind_at, node_at}
use Rattle.emtp_rows.specs.held.Touched.{row_at}
use Rattle.emtp_switch.specs.Currents as switched
use Rattle.emtp_switch.specs.Groups.{alone, bridges_of, from_at, groups, root_of, to_at}
use Rattle.emtp_switch.specs.States.{next_states}
use Rattle.emtp_laws.specs.Mirror.{HasNoSign, mirror_image, mirrored_part, bare_records, mirrored_branch}
use Rattle.emtp_laws.proofs.MirroredBranches.{HasCurve, branch_sum_opposite, brought_opposite, state_opposite}
use Rattle.emtp_laws.proofs.MirroredSwitches.{states_same}
use Rattle.emtp_laws.proofs.MirroredSystem.{group_opposite, into_opposite, kinds_alike}
use Rattle.emtp_laws.proofs.MirroredRows.{nodes_same, order_same}
use Rattle.emtp_elim.proofs.Opposites.{abs_neg, if_turned, item_turned, list_of_turned, map_turned}
use Rattle.emtp_laws.proofs.MirroredNumbers.{if_zero, sum_turned}

-- ---- voltages

pub rows_same : (case : Parts) → row_at (mirror_image case) ≡ row_at case
rows_same case = ap {B = ℕ → ℕ} (λ (r : Rows) (n : ℕ). position_or_len (λ m. m == n) r.nodes) (order_same case)

pub voltages_opposite : (case : Parts) (x : List ℤ) → voltages_of (mirror_image case) (opposites x) ≡ opposites (voltages_of case x)
unfolding voltages_of
voltages_opposite case x =
    ap (λ (at : ℕ → ℕ). pos 0 ∷ map (λ n. item (opposites x) (at n)) (range_with_len 1 (length case.nodes))) (rows_same case)
    ∙ ap (λ ys. pos 0 ∷ ys) (map_turned (λ n. item x (row_at case n)) (λ n. item (opposites x) (row_at case n)) (λ n. item_turned x (row_at case n)) (range_with_len 1 (length case.nodes)))

-- ---- branches

-- each pseudo-nonlinear branch has its points
abbrev pub HasCurves : Parts → Type 0
HasCurves case = (b : ℕ) → HasCurve case (slice_get case.branches b)

at_opposite : (case : Parts) (H : List StepRecord) (vs : List ℤ) → HasCurves case → (b : ℕ) → state_at (mirror_image case) (bare_records H) (opposites vs) b ≡ option_map mirrored_branch (state_at case H vs b)
at_opposite case H vs curves b = state_opposite case H vs b (slice_get case.branches b) (curves b)

none_same : (o : Option BranchState) → is_none (option_map mirrored_branch o) ≡ is_none o
none_same None = refl
none_same (Some s) = refl

pub out_same : (case : Parts) (H : List StepRecord) (vs : List ℤ) → HasCurves case → first_out (mirror_image case) (bare_records H) (opposites vs) ≡ first_out case H vs
out_same case H vs curves =
    ap (λ (p : ℕ → Bool). position p (range_with_len 0 (length case.branches))) (fun_ext (λ b. ap is_none (at_opposite case H vs curves b) ∙ none_same (state_at case H vs b)))

or_rest : (o : Option BranchState) → unwrap_or (option_map mirrored_branch o) (LumpedBranch no_lumped) ≡ mirrored_branch (unwrap_or o (LumpedBranch no_lumped))
or_rest None = refl
or_rest (Some s) = refl

pub states_opposite : (case : Parts) (H : List StepRecord) (vs : List ℤ) → HasCurves case → states_at (mirror_image case) (bare_records H) (opposites vs) ≡ map mirrored_branch (states_at case H vs)
states_opposite case H vs curves =
    let all = range_with_len 0 (length case.branches) in
    ap (λ (f : ℕ → BranchState). map f all) (fun_ext (λ b. ap (λ (o : Option BranchState). unwrap_or o (LumpedBranch no_lumped)) (at_opposite case H vs curves b) ∙ or_rest (state_at case H vs b)))
    ∙ sym (map-map mirrored_branch (λ b. unwrap_or (state_at case H vs b) (LumpedBranch no_lumped)) all)

-- ---- currents

pub leaving_opposite : (case : Parts) (H : List StepRecord) (bs : List BranchState) (n : ℕ) → HasNoSign case → leaving (mirror_image case) (bare_records H) (map mirrored_branch bs) n ≡ neg_ℤ (leaving case H bs n)
leaving_opposite case H bs n plain =
    let held = branch_sum_opposite case (λ b. brought_by (slice_get bs b)) (λ b. brought_by (slice_get (map mirrored_branch bs) b)) n
    (λ b. ap brought_by (slice_get-map mirrored_branch bs b) ∙ brought_opposite (slice_get bs b)) in
    omega (arith, ints, held, into_opposite case H n plain)

leaving_rows_opposite : (case : Parts) (H : List StepRecord) (bs : List BranchState) → HasNoSign case → leaving_rows (mirror_image case) (bare_records H) (map mirrored_branch bs) ≡ opposites (leaving_rows case H bs)
leaving_rows_opposite case H bs plain =
    list_of_turned (length case.nodes) (λ i. leaving case H bs (node_at case i)) (λ i. leaving (mirror_image case) (bare_records H) (map mirrored_branch bs) (node_at (mirror_image case) i))
    (λ i. ap (λ (at : ℕ → ℕ). leaving (mirror_image case) (bare_records H) (map mirrored_branch bs) (at i)) (nodes_same case) ∙ leaving_opposite case H bs (node_at case i) plain)

-- ---- switch currents

side_turned : (rows : Rows) (labels : List ℕ) (l : ℕ) (xs : List ℤ) → switched.leaving_side rows labels l (opposites xs) ≡ neg_ℤ (switched.leaving_side rows labels l xs)
side_turned rows labels l xs =
    sum_turned (length rows.nodes) (λ row. if slice_index labels (slice_index rows.nodes row) == l then item xs row else pos 0) (λ row. if slice_index labels (slice_index rows.nodes row) == l then item (opposites xs) row else pos 0)
    (λ row. ap (λ z. if slice_index labels (slice_index rows.nodes row) == l then z else pos 0) (item_turned xs row) ∙ if_zero (slice_index labels (slice_index rows.nodes row) == l) (item xs row))

crossing_turned : (rows : Rows) (labels : List ℕ) (root one other : ℕ) (xs : List ℤ) → switched.crossing rows labels root one other (opposites xs) ≡ neg_ℤ (switched.crossing rows labels root one other xs)
crossing_turned rows labels root one other xs =
    let side = switched.leaving_side rows labels in
    let b = slice_index labels one == slice_index labels root in
    ap (λ z. if b then z else neg_ℤ (side (slice_index labels one) (opposites xs))) (side_turned rows labels (slice_index labels other) xs)
    ∙ ap (λ z. if b then neg_ℤ (side (slice_index labels other) xs) else neg_ℤ z) (side_turned rows labels (slice_index labels one) xs)
    ∙ if_turned b (side (slice_index labels other) xs) (neg_ℤ (side (slice_index labels one) xs)) _ _ refl refl

currents_turned : (switches : List Switch) (rows : Rows) (states : List SwitchState) (xs : List ℤ) → switched.currents_of switches rows states (opposites xs) ≡ opposites (switched.currents_of switches rows states xs)
currents_turned switches rows states xs =
    let es = bridges_of switches rows states in
    map_turned (λ s. if switched.contains es s then switched.bridge_current switches rows es xs s else pos 0) (λ s. if switched.contains es s then switched.bridge_current switches rows es (opposites xs) s else pos 0)
    (λ s. ap (λ z. if switched.contains es s then z else pos 0)
    (crossing_turned rows (groups switches (alone (length rows.nodes)) (switched.others s es)) (root_of rows (groups switches (alone (length rows.nodes)) es) (from_at switches s)) (from_at switches s) (to_at switches s) xs)
    ∙ if_zero (switched.contains es s) (switched.bridge_current switches rows es xs s))
    (range_with_len 0 (length switches))

pub switch_currents_opposite : (case : Parts) (H : List StepRecord) (bs : List BranchState) → HasNoSign case → switch_currents_at (mirror_image case) (bare_records H) (map mirrored_branch bs) ≡ opposites (switch_currents_at case H bs)
switch_currents_opposite case H bs plain =
    ap (λ xs. switched.currents_of case.switches (order_of (mirror_image case)) (next_states (mirror_image case) (bare_records H)) xs) (leaving_rows_opposite case H bs plain)
    ∙ ap (λ (r : Rows). switched.currents_of case.switches r (next_states (mirror_image case) (bare_records H)) (opposites (leaving_rows case H bs))) (order_same case)
    ∙ ap (λ (ss : List SwitchState). switched.currents_of case.switches (order_of case) ss (opposites (leaving_rows case H bs))) (states_same case H plain)
    ∙ currents_turned case.switches (order_of case) (next_states case H) (leaving_rows case H bs)

pub beyond_same : (xs : List ℤ) → first_beyond (opposites xs) ≡ first_beyond xs
beyond_same xs =
    ap (λ n. position (λ s. not (is_within LARGEST_VALUE (item (opposites xs) s))) (range_with_len 0 n)) (length-map xs neg_ℤ)
    ∙ ap (λ (p : ℕ → Bool). position p (range_with_len 0 (length xs))) (fun_ext (λ s. ap (λ n. not (nat_le n LARGEST_VALUE)) (ap unsigned_abs (item_turned xs s) ∙ abs_neg (item xs s))))

-- ---- the part

abbrev part_with : List ℤ → List BranchState → List SwitchState → List ℤ → NetworkPart
part_with vs bs ss is = record { voltages = vs; branches = bs; switch_states = ss; switch_currents = is }

pub part_opposite : (case : Parts) (H : List StepRecord) (vs : List ℤ) → HasNoSign case → HasCurves case → part_at (mirror_image case) (bare_records H) (opposites vs) ≡ mirrored_part (part_at case H vs)
unfolding part_at
part_opposite case H vs plain curves =
    let there = bare_records H in
    let bs = states_at case H vs in
    ap (λ (b : List BranchState). part_with (opposites vs) b (next_states (mirror_image case) there) (switch_currents_at (mirror_image case) there b)) (states_opposite case H vs curves)
    ∙ ap (λ (s : List SwitchState). part_with (opposites vs) (map mirrored_branch bs) s (switch_currents_at (mirror_image case) there (map mirrored_branch bs))) (states_same case H plain)
    ∙ ap (λ (i : List ℤ). part_with (opposites vs) (map mirrored_branch bs) (next_states case H) i) (switch_currents_opposite case H bs plain)

-- ---- residuals

residual_same : (case : Parts) (H : List StepRecord) (bs : List BranchState) (i : ℕ) (k : RowKind) → HasNoSign case → residual_by (mirror_image case) (bare_records H) (map mirrored_branch bs) i k ≡ residual_by case H bs i k
residual_same case H bs i Kcl plain =
    ap (λ (at : ℕ → ℕ). unsigned_abs (leaving (mirror_image case) (bare_records H) (map mirrored_branch bs) (at i))) (nodes_same case)
    ∙ ap unsigned_abs (leaving_opposite case H bs (node_at case i) plain) ∙ abs_neg (leaving case H bs (node_at case i))
residual_same case H bs i Sum plain =
    ap (λ (kinds : List RowKind). unsigned_abs (group_sum (mirror_image case) kinds i (leaving (mirror_image case) (bare_records H) (map mirrored_branch bs)))) (kinds_alike case H plain)
    ∙ ap unsigned_abs (group_opposite case (kinds_of case H) i (leaving case H bs) (leaving (mirror_image case) (bare_records H) (map mirrored_branch bs)) (λ n. leaving_opposite case H bs n plain))
    ∙ abs_neg (group_sum case (kinds_of case H) i (leaving case H bs))
residual_same case H bs i (Tie row) plain = refl
residual_same case H bs i Ground plain = refl
residual_same case H bs i SourceRow plain = refl

pub residuals_same : (case : Parts) (H : List StepRecord) (bs : List BranchState) → HasNoSign case → residual_of (mirror_image case) (bare_records H) (map mirrored_branch bs) ≡ residual_of case H bs
residuals_same case H bs plain = fun_ext (λ i.
    ap (λ (kinds : List RowKind). residual_by (mirror_image case) (bare_records H) (map mirrored_branch bs) i (kind_at kinds i)) (kinds_alike case H plain)
    ∙ residual_same case H bs i (kind_at (kinds_of case H) i) plain)
