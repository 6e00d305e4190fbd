-- The nodal system of a mirrored case: the same matrix, and the opposite right side.
use Rattle.std.proofs.Common.{◌≡◌, ◌∙◌, ◌==◌, ◌&&◌, ℕ, ℤ, pos, neg_ℤ, ◌-ℤ◌, ◌*ℤ◌, if◌then◌else◌, int_lt, Bool, true, false, List, [], ◌∷◌, map, length, slice_get, Some, option_map, unwrap_or, refl, ap, arith}
use Rattle.std.specs.Int.{int_max, int_rem_euclid}
use Rattle.std.specs.List.{All, find}
use Rattle.std.proofs.Math.IntN.{*ℤ_comm}
use Rattle.std.proofs.lemmas.Int.{ints}
use Rattle.std.proofs.lemmas.List.{length-map}
use Rattle.std.proofs.lemmas.List.Elements.{All-head, All-tail}
use Rattle.emtp_case.specs.RowOrder.{Rows, order_of}
use Rattle.emtp_case.specs.RunData.{time_of}
use Rattle.emtp_case.specs.Source.{is_voltage_source_at}
use Rattle.emtp_case.specs.StepRecord.{StepRecord, latest}
use Rattle.emtp_case.specs.Sums.{sum_below, total}
use Rattle.emtp_case.specs.declared.case.Parts.{Parts}
use Rattle.emtp_case.specs.declared.row_kind.RowKind.{RowKind}
use Rattle.emtp_case.specs.declared.row_kind.RowKind.TheVariants.{Kcl, Sum, Tie, Ground, Source as SourceRow}
use Rattle.emtp_case.specs.declared.run_data.RunData.{RunData}
use Rattle.emtp_case.specs.declared.source.Shape.{Shape}
use Rattle.emtp_case.specs.declared.source.Shape.TheVariants.{Cosine, NodeVoltage, Pulse, Ramp, Saw, Step, SwitchCurrent, SwitchStatus, Tacs}
use Rattle.emtp_case.specs.declared.source.Source.{Source}
use Rattle.emtp_case.specs.declared.switch.SwitchState.{SwitchState}
use Rattle.emtp_elim.specs.Matrix.{list_of}
use Rattle.emtp_elim.specs.held.Matrix.{opposites}
use Rattle.emtp_fix.proofs.Nearest.{near-neg}
use Rattle.emtp_fix.proofs.Wide.{mul_neg}
use Rattle.emtp_fix.specs.Rounding.{near}
use Rattle.emtp_net.specs.System.{conductances, couplings, history_at, kinds_of, matrix, right, right_by, right_current, source_value, sources_into, voltage_of}
use Rattle.emtp_rows.specs.Nodal.{group_sum, is_member, kind_at, nodal_matrix, node_at}
use Rattle.emtp_switch.specs.Kinds as switched
use Rattle.emtp_switch.specs.States.{next_states}
use Rattle.emtp_wave.specs.Wave.{active_value, is_active, value_of}
use Rattle.emtp_laws.specs.Mirror.{HasNoSign, is_plain_shape, mirror_image, mirrored_bare, bare_records, mirrored_source}
use Rattle.emtp_laws.proofs.MirroredBranches.{branch_sum_opposite, conductances_same, history_opposite}
use Rattle.emtp_laws.proofs.MirroredSwitches.{states_same}
use Rattle.emtp_laws.proofs.AlikeRows.{nodal_with}
use Rattle.emtp_laws.proofs.MirroredRows.{kinds_same, matrix_same, nodes_same, order_same}
use Rattle.emtp_elim.proofs.Opposites.{list_of_turned}
use Rattle.emtp_laws.proofs.MirroredNumbers.{if_zero, sum_turned}

-- ---- the matrix

pub kinds_alike : (case : Parts) (H : List StepRecord) → HasNoSign case → kinds_of (mirror_image case) (bare_records H) ≡ kinds_of case H
kinds_alike case H plain =
    ap (λ (r : Rows). switched.kinds_of (mirror_image case) r (next_states (mirror_image case) (bare_records H))) (order_same case)
    ∙ ap (λ (ss : List SwitchState). switched.kinds_of (mirror_image case) (order_of case) ss) (states_same case H plain)
    ∙ kinds_same case (order_of case) (next_states case H)

pub matrix_alike : (case : Parts) (H : List StepRecord) → HasNoSign case → matrix (mirror_image case) (bare_records H) ≡ matrix case H
matrix_alike case H plain =
    ap (λ (own : List ℤ). nodal_matrix (nodal_with (mirror_image case) own (couplings case) (kinds_of (mirror_image case) (bare_records H)))) (conductances_same case H)
    ∙ ap (λ (kinds : List RowKind). nodal_matrix (nodal_with (mirror_image case) (conductances case H) (couplings case) kinds)) (kinds_alike case H plain)
    ∙ matrix_same case (conductances case H) (couplings case) (kinds_of case H)

-- ---- sources

neg_mul : (a m d : ℤ) → near (neg_ℤ a *ℤ m) d ≡ neg_ℤ (near (a *ℤ m) d)
neg_mul a m d = ap (λ z. near z d) (*ℤ_comm (neg_ℤ a) m ∙ mul_neg m a ∙ ap neg_ℤ (*ℤ_comm m a)) ∙ near-neg (a *ℤ m) d

either : (b : Bool) (x y z : ℤ) → z ≡ neg_ℤ y → (if b then neg_ℤ x else z) ≡ neg_ℤ (if b then x else y)
either true x y z e = refl
either false x y z e = e

active_opposite : (tacs other : List ℤ) (s : Source) (t : ℤ) (shape : Shape) → is_plain_shape shape ≡ true → active_value other (mirrored_source s) t shape ≡ neg_ℤ (active_value tacs s t shape)
unfolding active_value
active_opposite tacs other s t Step plain = refl
active_opposite tacs other s t (Ramp rise) plain =
    let m = t -ℤ int_max s.start (pos 0) in either (int_lt rise m) s.amplitude (near (s.amplitude *ℤ m) rise) _ (neg_mul s.amplitude m rise)
active_opposite tacs other s t (Cosine freq phase) plain = neg_mul s.amplitude _ _
active_opposite tacs other s t (Tacs var) plain = absurd (cc)
active_opposite tacs other s t (Pulse period width) plain = if_zero (int_lt (int_rem_euclid (t -ℤ s.start) period) width) s.amplitude
active_opposite tacs other s t (Saw period) plain = neg_mul s.amplitude (int_rem_euclid (t -ℤ s.start) period) period
active_opposite tacs other s t (NodeVoltage node) plain = refl
active_opposite tacs other s t (SwitchCurrent switch) plain = refl
active_opposite tacs other s t (SwitchStatus switch) plain = refl

pub value_opposite : (run : RunData) (tacs other : List ℤ) (s : Source) (step : ℕ) → is_plain_shape s.shape ≡ true → value_of run other (mirrored_source s) step ≡ neg_ℤ (value_of run tacs s step)
value_opposite run tacs other s step plain =
    let t = time_of run step in
    ap (λ z. if is_active s t then z else pos 0) (active_opposite tacs other s t s.shape plain) ∙ if_zero (is_active s t) (active_value tacs s t s.shape)

source_opposite : (case : Parts) (H : List StepRecord) (s : Source) → is_plain_shape s.shape ≡ true → source_value (mirror_image case) (bare_records H) (mirrored_source s) ≡ neg_ℤ (source_value case H s)
source_opposite case H s plain =
    ap (λ n. value_of case.run (latest (bare_records H)).values (mirrored_source s) n) (length-map H mirrored_bare)
    ∙ value_opposite case.run (latest H).values (latest (bare_records H)).values s (length H) plain

abbrev ArePlain : List Source → Type 0
ArePlain ss = All (λ (s : Source). is_plain_shape s.shape ≡ true) ss

abbrev brought : Parts → List StepRecord → ℕ → Source → ℤ
brought case H n s = if s.current && (s.node == n) then source_value case H s else pos 0

all_opposite : (case : Parts) (H : List StepRecord) (n : ℕ) (ss : List Source) → ArePlain ss → total (brought (mirror_image case) (bare_records H) n) (map mirrored_source ss) ≡ neg_ℤ (total (brought case H n) ss)
all_opposite case H n [] plain = refl
all_opposite case H n (s ∷ ss) plain =
    let first : brought (mirror_image case) (bare_records H) n (mirrored_source s) ≡ neg_ℤ (brought case H n s) =
    ap (λ z. if s.current && (s.node == n) then z else pos 0) (source_opposite case H s (All-head (λ (s : Source). is_plain_shape s.shape ≡ true) s ss plain)) ∙ if_zero (s.current && (s.node == n)) (source_value case H s) in
    omega (arith, ints, first, all_opposite case H n ss (All-tail (λ (s : Source). is_plain_shape s.shape ≡ true) s ss plain))

pub into_opposite : (case : Parts) (H : List StepRecord) (n : ℕ) → HasNoSign case → sources_into (mirror_image case) (bare_records H) n ≡ neg_ℤ (sources_into case H n)
into_opposite case H n plain = all_opposite case H n case.sources plain.sources

found_opposite : (case : Parts) (H : List StepRecord) (n : ℕ) (ss : List Source) → ArePlain ss
    → unwrap_or (option_map (source_value (mirror_image case) (bare_records H)) (find (is_voltage_source_at n) (map mirrored_source ss))) (pos 0) ≡ neg_ℤ (unwrap_or (option_map (source_value case H) (find (is_voltage_source_at n) ss)) (pos 0))
found_opposite case H n [] plain = refl
found_opposite case H n (s ∷ ss) plain =
    by_test (is_voltage_source_at n s) (source_opposite case H s (All-head (λ (s : Source). is_plain_shape s.shape ≡ true) s ss plain)) (found_opposite case H n ss (All-tail (λ (s : Source). is_plain_shape s.shape ≡ true) s ss plain))
  where
    by_test : (b : Bool) → source_value (mirror_image case) (bare_records H) (mirrored_source s) ≡ neg_ℤ (source_value case H s)
        → unwrap_or (option_map (source_value (mirror_image case) (bare_records H)) (find (is_voltage_source_at n) (map mirrored_source ss))) (pos 0) ≡ neg_ℤ (unwrap_or (option_map (source_value case H) (find (is_voltage_source_at n) ss)) (pos 0))
        → unwrap_or (option_map (source_value (mirror_image case) (bare_records H)) (if b then Some (mirrored_source s) else find (is_voltage_source_at n) (map mirrored_source ss))) (pos 0)
        ≡ neg_ℤ (unwrap_or (option_map (source_value case H) (if b then Some s else find (is_voltage_source_at n) ss)) (pos 0))
    by_test true e h = e
    by_test false e h = h

voltage_opposite : (case : Parts) (H : List StepRecord) (n : ℕ) → HasNoSign case → voltage_of (mirror_image case) (bare_records H) n ≡ neg_ℤ (voltage_of case H n)
voltage_opposite case H n plain = found_opposite case H n case.sources plain.sources

-- ---- the right side

current_opposite : (case : Parts) (H : List StepRecord) (n : ℕ) → HasNoSign case → right_current (mirror_image case) (bare_records H) n ≡ neg_ℤ (right_current case H n)
current_opposite case H n plain =
    let held = branch_sum_opposite case (history_at case H) (history_at (mirror_image case) (bare_records H)) n (λ b. history_opposite case H b (slice_get case.branches b)) in
    omega (arith, ints, held, into_opposite case H n plain)

pub group_opposite : (case : Parts) (kinds : List RowKind) (i : ℕ) (f g : ℕ → ℤ) → ((n : ℕ) → g n ≡ neg_ℤ (f n)) → group_sum (mirror_image case) kinds i g ≡ neg_ℤ (group_sum case kinds i f)
group_opposite case kinds i f g h =
    ap (λ (at : ℕ → ℕ). sum_below (length case.nodes) (λ k. if is_member kinds i k then g (at k) else pos 0)) (nodes_same case)
    ∙ sum_turned (length case.nodes) (λ k. if is_member kinds i k then f (node_at case k) else pos 0) (λ k. if is_member kinds i k then g (node_at case k) else pos 0)
    (λ k. ap (λ z. if is_member kinds i k then z else pos 0) (h (node_at case k)) ∙ if_zero (is_member kinds i k) (f (node_at case k)))

row_opposite : (case : Parts) (H : List StepRecord) (i : ℕ) (k : RowKind) → HasNoSign case → right_by (mirror_image case) (bare_records H) i k ≡ neg_ℤ (right_by case H i k)
row_opposite case H i Kcl plain = ap (λ (at : ℕ → ℕ). right_current (mirror_image case) (bare_records H) (at i)) (nodes_same case) ∙ current_opposite case H (node_at case i) plain
row_opposite case H i Sum plain =
    ap (λ (kinds : List RowKind). group_sum (mirror_image case) kinds i (right_current (mirror_image case) (bare_records H))) (kinds_alike case H plain)
    ∙ group_opposite case (kinds_of case H) i (right_current case H) (right_current (mirror_image case) (bare_records H)) (λ n. current_opposite case H n plain)
row_opposite case H i (Tie row) plain = refl
row_opposite case H i Ground plain = refl
row_opposite case H i SourceRow plain = ap (λ (at : ℕ → ℕ). voltage_of (mirror_image case) (bare_records H) (at i)) (nodes_same case) ∙ voltage_opposite case H (node_at case i) plain

pub right_opposite : (case : Parts) (H : List StepRecord) → HasNoSign case → right (mirror_image case) (bare_records H) ≡ opposites (right case H)
unfolding right
right_opposite case H plain =
    ap (λ (kinds : List RowKind). list_of (length case.nodes) (λ i. right_by (mirror_image case) (bare_records H) i (kind_at kinds i))) (kinds_alike case H plain)
    ∙ list_of_turned (length case.nodes) (λ i. right_by case H i (kind_at (kinds_of case H) i)) (λ i. right_by (mirror_image case) (bare_records H) i (kind_at (kinds_of case H) i))
    (λ i. row_opposite case H i (kind_at (kinds_of case H) i) plain)
