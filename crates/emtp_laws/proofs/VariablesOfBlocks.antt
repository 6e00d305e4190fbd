-- In a record the variable of a block has the output that the blocks of its step record: no other card writes it behind them.
use Rattle.std.proofs.Common.{◌≡◌, ◌≢◌, ◌∙◌, ◌+◌, ◌<◌, ◌≤◌, ◌==◌, ℕ, zero, suc, ℤ, pos, if◌then◌else◌, Bool, true, false, List, ◌++◌, drop, length, map, slice_get, slice_index, slice_index_or, slice_set, Option, Some, None, Result, Ok, Err, refl, ap, sym, inl, inr, arith}
use Rattle.std.proofs.Math.ListN.{get_or-append}
use Rattle.std.proofs.lemmas.Bool.{cases_eq, cases_lt, eq-eqb}
use Rattle.std.proofs.lemmas.List.{get_or-append-add, get_or-map, get_or-set_other, get_or-set_same, length-append, length-drop, length-map, length-set}
use Rattle.std.proofs.lemmas.Option.{get_or_from_slice_get, slice_get_within}
use Rattle.emtp_blocks.proofs.NextStates.{list_item}
use Rattle.emtp_blocks.specs.System.{first_out, output_at, outputs}
use Rattle.emtp_blocks.specs.System as system
use Rattle.emtp_case.specs.held.Case.{DefinesEach, IsCase, defined_vars}
use Rattle.emtp_case.specs.held.Control.{IsBlock, var_of}
use Rattle.emtp_case.specs.held.Sizes.{sizes_of}
use Rattle.emtp_case.specs.StepRecord.{StepRecord, latest}
use Rattle.emtp_case.specs.declared.case.Parts.{Parts}
use Rattle.emtp_case.specs.declared.control.Block.{Block}
use Rattle.emtp_case.specs.declared.control.DeviceState.{DeviceState}
use Rattle.emtp_case.specs.declared.control.Extra.{Extra}
use Rattle.emtp_case.specs.declared.control.Extra.TheVariants.{Device as OfDevice, Formula as OfFormula}
use Rattle.emtp_case.specs.declared.source.Source.{Source}
use Rattle.emtp_devices.specs.Device.{next_state}
use Rattle.emtp_devices.specs.Devices.{states_of}
use Rattle.emtp_elim.specs.Matrix.{item}
use Rattle.emtp_elim.specs.Outcome.{outcome}
use Rattle.emtp_elim.specs.declared.fault.PlainFault.{PlainFault}
use Rattle.emtp_fix.proofs.Chaining.{same_ok, then_ok}
use Rattle.emtp_fix.specs.Chain.{◌>>=◌}
use Rattle.emtp_fix.specs.Limit.{in_range}
use Rattle.emtp_laws.proofs.Counting.{passes_twice}
use Rattle.emtp_tacs.proofs.SixVariables.{read_all}
use Rattle.emtp_tacs.specs.Part.{ControlPart, standing_values}
use Rattle.emtp_tacs.specs.Step.{Measured, SoFar, Solved, accepted, block_var, blocks, completed, control_step, device_by, extra_at, extra_by, extra_of, extras, formula_value, group_of, in_turn, is_in_pass, known_before, solved_by, source_at, source_by, source_value, sources, starting, with_outputs, written}
use Rattle.emtp_tacs.specs.declared.fault.TacsFault.{TacsFault}

-- ---- each variable is that of one card

block_place : (case : Parts) (i : ℕ) → i < length case.blocks → slice_index (defined_vars case) (length case.tacs_sources + i) ≡ block_var case i
block_place case i below =
    let a = map (λ (s : Source). s.node) case.tacs_sources in
    let b = map (λ (x : Block). x.var) case.blocks in
    let c = map var_of case.extras in
    let count : length a ≡ length case.tacs_sources = length-map case.tacs_sources (λ (s : Source). s.node) in
    let counted : length b ≡ length case.blocks = length-map case.blocks (λ (x : Block). x.var) in
    get_or-append (a ++ b) c 0 (length case.tacs_sources + i) (omega (arith, length-append a b, count, counted, below))
    ∙ ap (λ n. slice_index_or (a ++ b) (n + i) 0) (sym count)
    ∙ get_or-append-add a b i 0

extra_place : (case : Parts) (n : ℕ) → slice_index (defined_vars case) (length case.tacs_sources + length case.blocks + n) ≡ slice_index_or (map var_of case.extras) n 0
extra_place case n =
    let a = map (λ (s : Source). s.node) case.tacs_sources in
    let b = map (λ (x : Block). x.var) case.blocks in
    let c = map var_of case.extras in
    let total : length (a ++ b) ≡ length case.tacs_sources + length case.blocks = omega (arith, length-append a b, length-map case.tacs_sources (λ (s : Source). s.node), length-map case.blocks (λ (x : Block). x.var)) in
    ap (λ k. slice_index_or (a ++ b ++ c) (k + n) 0) (sym total) ∙ get_or-append-add (a ++ b) c n 0

all_places : (case : Parts) → length (defined_vars case) ≡ length case.tacs_sources + length case.blocks + length case.extras
all_places case =
    let a = map (λ (s : Source). s.node) case.tacs_sources in
    let b = map (λ (x : Block). x.var) case.blocks in
    let c = map var_of case.extras in
    omega (arith, length-append (a ++ b) c, length-append a b, length-map case.tacs_sources (λ (s : Source). s.node), length-map case.blocks (λ (x : Block). x.var), length-map case.extras var_of)

one_card : (case : Parts) (v p q : ℕ) → DefinesEach case → 6 ≤ v → v < length case.vars → p < q → q < length (defined_vars case) → slice_index (defined_vars case) p ≡ v → slice_index (defined_vars case) q ≡ v → ⊥
one_card case v p q each own there less inside first second =
    let two = passes_twice (λ d. d == v) (defined_vars case) p q less inside (eq-eqb (slice_index (defined_vars case) p) v first) (eq-eqb (slice_index (defined_vars case) q) v second) in
    let one = each v own there in
    omega (arith, two, one)

other_block : (case : Parts) (i k : ℕ) → DefinesEach case → 6 ≤ block_var case i → block_var case i < length case.vars → i < length case.blocks → k < length case.blocks → k ≢ i → block_var case k ≢ block_var case i
other_block case i k each own there below under ne same = elim (cases_lt i k) [
  | inl before ↦
      one_card case (block_var case i) (length case.tacs_sources + i) (length case.tacs_sources + k) each own there (omega (arith, before)) (omega (arith, all_places case, under)) (block_place case i below) (block_place case k under ∙ same)
  | inr behind ↦
      let less : k < i = omega (arith, behind, ne) in
      one_card case (block_var case i) (length case.tacs_sources + k) (length case.tacs_sources + i) each own there (omega (arith, less)) (omega (arith, all_places case, below)) (block_place case k under ∙ same) (block_place case i below)
]

other_card : (case : Parts) (i n : ℕ) (e : Extra) → DefinesEach case → 6 ≤ block_var case i → block_var case i < length case.vars → i < length case.blocks → slice_get case.extras n ≡ Some e → block_var case i ≢ var_of e
other_card case i n e each own there below is same =
    let inside = slice_get_within case.extras n e is in
    let at : slice_index_or (map var_of case.extras) n 0 ≡ var_of e = get_or-map var_of case.extras n e 0 inside ∙ ap var_of (get_or_from_slice_get case.extras n e e is) in
    one_card case (block_var case i) (length case.tacs_sources + i) (length case.tacs_sources + length case.blocks + n) each own there (omega (arith, below)) (omega (arith, all_places case, inside)) (block_place case i below) (extra_place case n ∙ at ∙ sym same)

-- ---- what a write leaves

-- a value of this variable leaves what `of` reads as it was
abbrev pub Leaves : {X : Type 0} → (List ℤ → X) → ℕ → Type 0
Leaves of var = (vs : List ℤ) (y : ℤ) → of (slice_set vs var y) ≡ of vs

written_leaves : {X : Type 0} (of : List ℤ → X) (var : ℕ) (s t : SoFar) (o : Option ℤ) → Leaves of var → written var s o ≡ Ok t → of t.values ≡ of s.values
written_leaves of var s t None left is = absurd (cc)
written_leaves of var s t (Some y) left is = ap (λ (u : SoFar). of u.values) (sym (same_ok _ t is)) ∙ left s.values y

device_leaves : {X : Type 0} (of : List ℤ → X) (n var : ℕ) (s t : SoFar) (o : Option DeviceState) → Leaves of var → device_by n var s o ≡ Ok t → of t.values ≡ of s.values
device_leaves of n var s t None left is = absurd (cc)
device_leaves of n var s t (Some d) left is = ap (λ (u : SoFar). of u.values) (sym (same_ok _ t is)) ∙ left s.values d.output

computed_leaves : {X : Type 0} (of : List ℤ → X) (case : Parts) (H : List StepRecord) (n : ℕ) (s t : SoFar) (e : Extra) → Leaves of (var_of e) → extra_of case H n s e ≡ Ok t → of t.values ≡ of s.values
computed_leaves of case H n s t (OfFormula x) left is = written_leaves of x.var s t (formula_value s.values x) left is
computed_leaves of case H n s t (OfDevice x) left is = device_leaves of n x.var s t (next_state case x (length H) s.values (states_of n H)) left is

in_pass_leaves : {X : Type 0} (of : List ℤ → X) (b : Bool) (m : Result SoFar TacsFault) (s t : SoFar) → (m ≡ Ok t → of t.values ≡ of s.values) → (if b then m else Ok s) ≡ Ok t → of t.values ≡ of s.values
in_pass_leaves of true m s t left is = left is
in_pass_leaves of false m s t left is = ap (λ (u : SoFar). of u.values) (sym (same_ok s t is))

extra_leaves : {X : Type 0} (of : List ℤ → X) (case : Parts) (H : List StepRecord) (early : Bool) (n : ℕ) (s t : SoFar) (o : Option Extra) → ((e : Extra) → o ≡ Some e → Leaves of (var_of e)) → extra_by case H early n s o ≡ Ok t → of t.values ≡ of s.values
extra_leaves of case H early n s t None left is = ap (λ (u : SoFar). of u.values) (sym (same_ok s t is))
extra_leaves of case H early n s t (Some e) left is =
    in_pass_leaves of (is_in_pass early (group_of e)) (extra_of case H n s e) s t (computed_leaves of case H n s t e (left e refl)) is

source_leaves : {X : Type 0} (of : List ℤ → X) (case : Parts) (step : ℕ) (m : Measured) (s t : SoFar) (o : Option Source) → ((x : Source) → Leaves of x.node) → source_by case step m s o ≡ Ok t → of t.values ≡ of s.values
source_leaves of case step m s t None left is = ap (λ (u : SoFar). of u.values) (sym (same_ok s t is))
source_leaves of case step m s t (Some x) left is = written_leaves of x.node s t (in_range (source_value case step m x x.shape)) (left x) is

turn_leaves : {X : Type 0} (of : List ℤ → X) (f : ℕ → SoFar → Result SoFar TacsFault) → ((n : ℕ) (s t : SoFar) → f n s ≡ Ok t → of t.values ≡ of s.values) → (n : ℕ) (s t : SoFar) → in_turn f n s ≡ Ok t → of t.values ≡ of s.values
turn_leaves of f keeps zero s t is = ap (λ (u : SoFar). of u.values) (sym (same_ok s t is))
turn_leaves of f keeps (suc n) s t is =
    let one = then_ok (in_turn f n s) (f n) t is in
    keeps n one.0 t one.2 ∙ turn_leaves of f keeps n s one.0 one.1

pub extras_leave : {X : Type 0} (of : List ℤ → X) (case : Parts) (H : List StepRecord) (early : Bool) (s t : SoFar) → ((n : ℕ) (e : Extra) → slice_get case.extras n ≡ Some e → Leaves of (var_of e)) → extras case H early s ≡ Ok t → of t.values ≡ of s.values
extras_leave of case H early s t left is =
    turn_leaves of (extra_at case H early) (λ n u w made. extra_leaves of case H early n u w (slice_get case.extras n) (left n) made) (length case.extras) s t is

-- ---- how many values there are

pub as_many : (var : ℕ) → Leaves (length {A = ℤ}) var
as_many var vs y = length-set vs var y

pub known_count : (case : Parts) (H : List StepRecord) (m : Measured) (known : SoFar) → length (latest H).values ≡ length case.vars → 6 ≤ length case.vars → known_before case H m ≡ Ok known → length known.values ≡ length case.vars
known_count case H m known count six is =
    let first = then_ok (sources case (length H) m (starting case H)) (extras case H true) known is in
    let behind = extras_leave (length {A = ℤ}) case H true first.0 known (λ n e at. as_many (var_of e)) first.2 in
    let before = turn_leaves (length {A = ℤ}) (source_at case (length H) m) (λ n u w made. source_leaves (length {A = ℤ}) case (length H) m u w (slice_get case.tacs_sources n) (λ x. as_many x.node) made) (length case.tacs_sources) (starting case H) first.0 first.1 in
    let started : length (starting case H).values ≡ length case.vars = omega (arith, length-append (standing_values case.run (length H)) (drop 6 (latest H).values), length-drop 6 (latest H).values, count, six) in
    behind ∙ before ∙ started

-- ---- the outputs among the values

pub outputs_count : (case : Parts) (ys : List ℤ) (n : ℕ) (known : List ℤ) → length (with_outputs case ys n known) ≡ length known
outputs_count case ys zero known = refl
outputs_count case ys (suc n) known = length-set (with_outputs case ys n known) (block_var case n) (item ys n) ∙ outputs_count case ys n known

output_there : (case : Parts) (ys known : List ℤ) (i n : ℕ) → i < n → n ≤ length case.blocks → block_var case i < length known → ((k : ℕ) → k < length case.blocks → k ≢ i → block_var case k ≢ block_var case i) → item (with_outputs case ys n known) (block_var case i) ≡ item ys i
output_there case ys known i zero below within there apart = absurd (omega (arith, below))
output_there case ys known i (suc n) below within there apart =
    let before = with_outputs case ys n known in
    let put : ℕ → ℤ = λ k. item (slice_set before (block_var case k) (item ys k)) (block_var case i) in
    elim (cases_eq n i) [
      | inl same ↦ ap put same ∙ get_or-set_same before (block_var case i) (item ys i) (pos 0) (omega (arith, there, outputs_count case ys n known))
      | inr ne ↦
          let other : block_var case n ≢ block_var case i = apart n (omega (arith, within)) ne in
          get_or-set_other before (block_var case n) (block_var case i) (item ys n) (pos 0) (λ e. other (sym e))
          ∙ output_there case ys known i n (omega (arith, below, ne)) (omega (arith, within)) there apart
    ]

-- the values are those with the outputs, from some solved unknowns
pub record HaveOutputs (case : Parts) (H : List StepRecord) (known values : List ℤ) : Type 0 where
  pub solved : List ℤ
  pub are : values ≡ with_outputs case (outputs case H known solved) (length case.blocks) known

accepted_outputs : (case : Parts) (H : List StepRecord) (known xs : List ℤ) (out : Option ℕ) (s : Solved) → accepted case H known xs out ≡ Ok s → HaveOutputs case H known s.values
accepted_outputs case H known xs (Some i) s e = absurd (cc)
accepted_outputs case H known xs None s e = record { solved = xs; are = sym (ap (λ (t : Solved). t.values) (same_ok _ s e)) }

pub solved_outputs : (case : Parts) (H : List StepRecord) (known : List ℤ) (o : Result (List ℤ) PlainFault) (s : Solved) → solved_by case H known o ≡ Ok s → HaveOutputs case H known s.values
solved_outputs case H known (Err fault) s e = absurd (cc)
solved_outputs case H known (Ok xs) s e = accepted_outputs case H known xs (first_out case H known xs) s e

-- ---- a step

var_is : (case : Parts) (i : ℕ) (b : Block) → slice_get case.blocks i ≡ Some b → block_var case i ≡ b.var
var_is case i b is = get_or-map (λ (x : Block). x.var) case.blocks i b 0 (slice_get_within case.blocks i b is) ∙ ap (λ (x : Block). x.var) (get_or_from_slice_get case.blocks i b b is)

output_at_place : (case : Parts) (H : List StepRecord) (known xs : List ℤ) (i : ℕ) → i < length case.blocks → item (outputs case H known xs) i ≡ output_at case H known xs i
unfolding outputs
output_at_place case H known xs i below = list_item (length case.blocks) (output_at case H known xs) i below

pub variable_is_output : (case : Parts) (H : List StepRecord) (m : Measured) (known : SoFar) (part : ControlPart) (i : ℕ) (b : Block) → IsCase case → length (latest H).values ≡ length case.vars → known_before case H m ≡ Ok known → control_step case H m ≡ Ok part → slice_get case.blocks i ≡ Some b
    → (xs : List ℤ) × (item part.values b.var ≡ output_at case H known.values xs i)
unfolding control_step
variable_is_output case H m known part i b fits count is made at =
    let control = fits.draft.control in
    let card = read_all (IsBlock case.run (sizes_of case)) case.blocks i b control.blocks at in
    let below = slice_get_within case.blocks i b at in
    let var = var_is case i b at in
    let own : 6 ≤ block_var case i = omega (arith, var, card.own) in
    let there : block_var case i < length case.vars = omega (arith, var, card.there) in
    let first = then_ok (known_before case H m) (λ (k : SoFar). blocks case H k.values >>= completed case H k) part made in
    let same : first.0 ≡ known = same_ok first.0 known (sym first.1 ∙ is) in
    let solved = then_ok (blocks case H first.0.values) (completed case H first.0) part first.2 in
    let last = then_ok (extras case H false (record first.0 { values = solved.0.values })) (λ (l : SoFar). Ok (record { values = l.values; blocks = solved.0.blocks; devices = l.devices })) part solved.2 in
    let out = solved_outputs case H first.0.values (outcome (system.matrix case H) (system.right case H first.0.values)) solved.0 solved.1 in
    let six : 6 ≤ length case.vars = omega (arith, own, there) in
    let many : length first.0.values ≡ length case.vars = known_count case H m first.0 count six first.1 in
    let ys = outputs case H first.0.values out.solved in
    let read : List ℤ → ℤ = λ vs. item vs (block_var case i) in
    let kept : read last.0.values ≡ read solved.0.values =
    extras_leave read case H false (record first.0 { values = solved.0.values }) last.0 (λ n e here vs y.
    get_or-set_other vs (var_of e) (block_var case i) y (pos 0) (other_card case i n e fits.defined own there below here)) last.1 in
    let put : read solved.0.values ≡ item ys i =
    ap read out.are ∙ output_there case ys first.0.values i (length case.blocks) below (omega arith) (omega (arith, there, many)) (λ k under ne. other_block case i k fits.defined own there below under ne) in
    let final : part.values ≡ last.0.values = sym (ap (λ (p : ControlPart). p.values) (same_ok _ part last.2)) in (
      out.solved,
      ap (item part.values) (sym var) ∙ ap read final ∙ kept ∙ put ∙ output_at_place case H first.0.values out.solved i below
          ∙ ap (λ (k : SoFar). output_at case H k.values out.solved i) same,
    )
