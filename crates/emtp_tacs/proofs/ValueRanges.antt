-- The values of a step of the control are in range.
use Rattle.std.proofs.Common.{◌≡◌, subst, ℕ, zero, suc, ◌≤◌, ◌^◌, ℤ, pos, neg_ℤ, ◌*ℤ◌, Bool, true, false, if◌then◌else◌, All, List, [], ◌∷◌, drop, length, get_or, map, slice_get, unsigned_abs, Option, Some, None, IfSome, Result, Ok, Err, refl, arith}
use Rattle.std.proofs.lemmas.Int.{ints}
use Rattle.std.proofs.lemmas.List.Elements.{All-append, All-cons, All-drop, All-map, All-nil, All-set}
use Rattle.emtp_blocks.proofs.OutputRanges.{outputs_small}
use Rattle.emtp_blocks.specs.System.{first_out, matrix, outputs, right}
use Rattle.emtp_case.specs.held.Case.{IsControl}
use Rattle.emtp_case.specs.held.Control.{IsExtra}
use Rattle.emtp_case.specs.RunData.{time_of}
use Rattle.emtp_case.specs.held.RunData.{IsRun}
use Rattle.emtp_case.specs.held.Sizes.{sizes_of}
use Rattle.emtp_case.specs.StepRecord.{StepRecord, latest}
use Rattle.emtp_case.specs.declared.case.Parts.{Parts}
use Rattle.emtp_case.specs.declared.control.DeviceState.{DeviceState}
use Rattle.emtp_case.specs.declared.control.Extra.{Extra}
use Rattle.emtp_case.specs.declared.control.Extra.TheVariants.{Device as OfDevice, Formula as OfFormula}
use Rattle.emtp_case.specs.declared.control.Formula.{Formula}
use Rattle.emtp_case.specs.declared.run_data.RunData.{RunData}
use Rattle.emtp_case.specs.declared.source.Source.{Source}
use Rattle.emtp_devices.proofs.OutputRanges.{next_small}
use Rattle.emtp_devices.specs.Device.{next_state}
use Rattle.emtp_devices.specs.Devices.{states_of}
use Rattle.emtp_elim.proofs.Outcomes.{outcome_small}
use Rattle.emtp_elim.specs.Matrix.{item}
use Rattle.emtp_elim.specs.held.Matrix.{AreWithin}
use Rattle.emtp_elim.specs.Outcome.{outcome}
use Rattle.emtp_elim.specs.declared.fault.PlainFault.{PlainFault}
use Rattle.emtp_expr.proofs.ValueRanges.{value_small}
use Rattle.emtp_fix.proofs.Chaining.{same_ok, then_ok}
use Rattle.emtp_fix.proofs.Nearest.{unsigned_abs-near-le}
use Rattle.emtp_fix.proofs.Ranges.{IsSmall, in_range-within, item_small}
use Rattle.emtp_fix.proofs.Wide.{abs-mul-le}
use Rattle.emtp_fix.specs.Chain.{◌>>=◌}
use Rattle.emtp_fix.specs.Limit.{in_range}
use Rattle.emtp_fix.specs.Rounding.{near}
use Rattle.emtp_fix.specs.declared.limit.TheConstants.{LARGEST_TIME, LARGEST_VALUE, NANO}
use Rattle.emtp_tacs.proofs.SixVariables.{read_all}
use Rattle.emtp_tacs.specs.Part.{ControlPart, standing_values}
use Rattle.emtp_tacs.specs.Step.{Measured, SoFar, Solved, accepted, block_var, blocks, completed, control_step, device_by, extra_at, extra_by, extra_of, extras, formula_value, group_of, in_turn, is_in_pass, known_before, solved_by, source_at, source_by, source_value, sources, starting, with_outputs, written}
use Rattle.emtp_tacs.specs.declared.fault.TacsFault.{TacsFault}

-- each value so far is in range
abbrev AreSoFar : SoFar → Type 0
AreSoFar s = All IsSmall s.values

-- ---- one card

written_small : (var : ℕ) (s t : SoFar) (o : Option ℤ) → AreSoFar s → IfSome o IsSmall → written var s o ≡ Ok t → AreSoFar t
written_small var s t None before small is = absurd (cc)
written_small var s t (Some y) before small is = subst AreSoFar (same_ok _ t is) (All-set IsSmall s.values var y small before)

device_small : (n var : ℕ) (s t : SoFar) (o : Option DeviceState) → AreSoFar s → IfSome o (λ d. IsSmall d.output) → device_by n var s o ≡ Ok t → AreSoFar t
device_small n var s t None before small is = absurd (cc)
device_small n var s t (Some d) before small is = subst AreSoFar (same_ok _ t is) (All-set IsSmall s.values var d.output small before)

source_small : (case : Parts) (step : ℕ) (m : Measured) (n : ℕ) (s t : SoFar) → AreSoFar s → source_at case step m n s ≡ Ok t → AreSoFar t
source_small case step m n s t before is = by (slice_get case.tacs_sources n) is
  where
    by : (o : Option Source) → source_by case step m s o ≡ Ok t → AreSoFar t
    by None is = subst AreSoFar (same_ok s t is) before
    by (Some x) is = written_small x.node s t (in_range (source_value case step m x x.shape)) before (in_range-within (source_value case step m x x.shape)) is

formula_small : (case : Parts) (s : SoFar) (x : Formula) → IsExtra (sizes_of case) case.points (OfFormula x) → AreSoFar s → IfSome (formula_value s.values x) IsSmall
formula_small case s x fits before =
    value_small (map (item s.values) x.vars) (length x.vars) x.expr (All-map IsSmall (item s.values) x.vars (λ k d below. item_small s.values (get_or x.vars k d) before)) fits.nodes

extra_small : (case : Parts) (H : List StepRecord) (early : Bool) (n : ℕ) (s t : SoFar) → IsControl case → AreSoFar s → extra_at case H early n s ≡ Ok t → AreSoFar t
extra_small case H early n s t control before is = by (slice_get case.extras n) refl is
  where
    computed : (e : Extra) → IsExtra (sizes_of case) case.points e → extra_of case H n s e ≡ Ok t → AreSoFar t
    computed (OfFormula x) fits is = written_small x.var s t (formula_value s.values x) before (formula_small case s x fits before) is
    computed (OfDevice x) fits is = device_small n x.var s t (next_state case x (length H) s.values (states_of n H)) before (next_small case x (length H) s.values (states_of n H)) is

    by_pass : (b : Bool) (e : Extra) → IsExtra (sizes_of case) case.points e → (if b then extra_of case H n s e else Ok s) ≡ Ok t → AreSoFar t
    by_pass true e fits is = computed e fits is
    by_pass false e fits is = subst AreSoFar (same_ok s t is) before

    by : (o : Option Extra) → slice_get case.extras n ≡ o → extra_by case H early n s o ≡ Ok t → AreSoFar t
    by None there is = subst AreSoFar (same_ok s t is) before
    by (Some e) there is = by_pass (is_in_pass early (group_of e)) e (read_all (IsExtra (sizes_of case) case.points) case.extras n e control.extras there) is

-- ---- all cards

in_turn_small : (f : ℕ → SoFar → Result SoFar TacsFault) → ((n : ℕ) (s t : SoFar) → AreSoFar s → f n s ≡ Ok t → AreSoFar t) → (n : ℕ) (s t : SoFar) → AreSoFar s → in_turn f n s ≡ Ok t → AreSoFar t
in_turn_small f keeps zero s t before is = subst AreSoFar (same_ok s t is) before
in_turn_small f keeps (suc n) s t before is =
    let one = then_ok (in_turn f n s) (f n) t is in
    keeps n one.0 t (in_turn_small f keeps n s one.0 before one.1) one.2

-- ---- blocks

with_outputs_small : (case : Parts) (ys : List ℤ) (n : ℕ) (known : List ℤ) → All IsSmall ys → All IsSmall known → All IsSmall (with_outputs case ys n known)
with_outputs_small case ys zero known small before = before
with_outputs_small case ys (suc n) known small before = All-set IsSmall (with_outputs case ys n known) (block_var case n) (item ys n) (item_small ys n small) (with_outputs_small case ys n known small before)

blocks_small : (case : Parts) (H : List StepRecord) (known : List ℤ) (t : Solved) → IsControl case → All IsSmall known → blocks case H known ≡ Ok t → All IsSmall t.values
blocks_small case H known t control small is = by (outcome (matrix case H) (right case H known)) refl is
  where
    range : (xs : List ℤ) (o : Option ℕ) → AreWithin LARGEST_VALUE xs → accepted case H known xs o ≡ Ok t → All IsSmall t.values
    range xs (Some i) within is = absurd (cc)
    range xs None within is =
        subst (λ (u : Solved). All IsSmall u.values) (same_ok _ t is) (with_outputs_small case (outputs case H known xs) (length case.blocks) known (outputs_small case H known xs control small within) small)

    by : (o : Result (List ℤ) PlainFault) → outcome (matrix case H) (right case H known) ≡ o → solved_by case H known o ≡ Ok t → All IsSmall t.values
    by (Err fault) ends is = absurd (cc)
    by (Ok xs) ends is = range xs (first_out case H known xs) (outcome_small (matrix case H) (right case H known) xs ends) is

-- ---- the step

time_small : (step : ℕ) (dt : ℤ) → step ≤ 10 ^ 6 → unsigned_abs dt ≤ 10 ^ 12 → unsigned_abs (pos step *ℤ dt) ≤ LARGEST_TIME
time_small step dt few small = abs-mul-le (pos step) dt (10 ^ 6) (10 ^ 12) few small

standing_small : (run : RunData) (step : ℕ) → IsRun run → step ≤ run.steps → All IsSmall (standing_values run step)
standing_small run step is few =
    let time : unsigned_abs (time_of run step) ≤ LARGEST_TIME = time_small step run.dt (omega (arith, few, is.few_steps)) (omega (arith, ints, is.dt.least, is.dt.most)) in
    let counted : IsSmall (pos step *ℤ NANO) = omega (arith, ints, few, is.few_steps) in
    let dt : unsigned_abs run.dt ≤ 10 ^ 12 = omega (arith, ints, is.dt.least, is.dt.most) in
    let last : All IsSmall (pos 0 ∷ NANO ∷ neg_ℤ NANO ∷ []) = All-cons IsSmall (pos 0) (NANO ∷ neg_ℤ NANO ∷ []) (omega arith) (All-cons IsSmall NANO (neg_ℤ NANO ∷ []) (omega arith) (All-cons IsSmall (neg_ℤ NANO) [] (omega arith) (All-nil IsSmall))) in
    let later : All IsSmall (near run.dt (pos 1000) ∷ pos 0 ∷ NANO ∷ neg_ℤ NANO ∷ []) = All-cons IsSmall (near run.dt (pos 1000)) (pos 0 ∷ NANO ∷ neg_ℤ NANO ∷ []) (omega (arith, dt, unsigned_abs-near-le run.dt (pos 1000))) last in
    All-cons IsSmall (near (time_of run step) (pos 1000)) ((pos step *ℤ NANO) ∷ near run.dt (pos 1000) ∷ pos 0 ∷ NANO ∷ neg_ℤ NANO ∷ []) (omega (arith, time, unsigned_abs-near-le (time_of run step) (pos 1000)))
    (All-cons IsSmall (pos step *ℤ NANO) (near run.dt (pos 1000) ∷ pos 0 ∷ NANO ∷ neg_ℤ NANO ∷ []) counted later)

pub part_small : (case : Parts) (H : List StepRecord) (m : Measured) (part : ControlPart) → IsRun case.run → IsControl case → length H ≤ case.run.steps → All IsSmall (latest H).values → control_step case H m ≡ Ok part → All IsSmall part.values
unfolding control_step
part_small case H m part run control few before made =
    let known = then_ok (known_before case H m) (λ known. blocks case H known.values >>= completed case H known) part made in
    let first = then_ok (sources case (length H) m (starting case H)) (extras case H true) known.0 known.1 in
    let solved = then_ok (blocks case H known.0.values) (completed case H known.0) part known.2 in
    let last = then_ok (extras case H false (record known.0 { values = solved.0.values })) (λ (last : SoFar). Ok (record { values = last.values; blocks = solved.0.blocks; devices = last.devices })) part solved.2 in
    let start : AreSoFar (starting case H) = All-append IsSmall (standing_values case.run (length H)) (drop 6 (latest H).values) (standing_small case.run (length H) run few) (All-drop IsSmall 6 (latest H).values before) in
    let sourced = in_turn_small (source_at case (length H) m) (λ n s t. source_small case (length H) m n s t) (length case.tacs_sources) (starting case H) first.0 start first.1 in
    let early = in_turn_small (extra_at case H true) (λ n s t. extra_small case H true n s t control) (length case.extras) first.0 known.0 sourced first.2 in
    let solved_small = blocks_small case H known.0.values solved.0 control early solved.1 in
    let late = in_turn_small (extra_at case H false) (λ n s t. extra_small case H false n s t control) (length case.extras) (record known.0 { values = solved.0.values }) last.0 solved_small last.1 in
    subst (λ (p : ControlPart). All IsSmall p.values) (same_ok (record { values = last.0.values; blocks = solved.0.blocks; devices = last.0.devices }) part last.2) late
