-- The six variables that every case has: no card writes them.
use Rattle.std.proofs.Common.{◌≡◌, ◌∙◌, ◌<◌, ◌≤◌, sym, ap, subst, ℕ, zero, suc, ℤ, pos, if◌then◌else◌, Bool, true, false, All, List, [], length, slice_get, get_or, take, Option, Some, None, Result, Ok, Err, refl, arith}
use Rattle.std.proofs.lemmas.List.{get_or-map, take-set-le}
use Rattle.std.proofs.lemmas.Option.{get_or_from_slice_get, slice_get-get_or, slice_get_within}
use Rattle.emtp_blocks.specs.System.{first_out, matrix, right}
use Rattle.emtp_case.specs.held.Case.{IsControl}
use Rattle.emtp_case.specs.held.Control.{IsBlock, IsExtra}
use Rattle.emtp_case.specs.held.Sizes.{sizes_of}
use Rattle.emtp_case.specs.held.Source.{IsTacsSource}
use Rattle.emtp_case.specs.StepRecord.{StepRecord}
use Rattle.emtp_case.specs.declared.case.Parts.{Parts}
use Rattle.emtp_case.specs.declared.control.Block.{Block}
use Rattle.emtp_case.specs.declared.control.BlockState.{BlockState}
use Rattle.emtp_case.specs.declared.control.Bound.TheVariants.{None as NoBound}
use Rattle.emtp_case.specs.declared.control.DeviceState.{DeviceState}
use Rattle.emtp_case.specs.declared.control.Extra.{Extra}
use Rattle.emtp_case.specs.declared.control.Extra.TheVariants.{Device as OfDevice, Formula as OfFormula}
use Rattle.emtp_case.specs.declared.source.Source.{Source}
use Rattle.emtp_devices.specs.Device.{next_state}
use Rattle.emtp_devices.specs.Devices.{states_of}
use Rattle.emtp_elim.specs.Matrix.{item}
use Rattle.emtp_elim.specs.Outcome.{outcome}
use Rattle.emtp_elim.specs.declared.fault.PlainFault.{PlainFault}
use Rattle.emtp_fix.specs.Limit.{in_range}
use Rattle.emtp_tacs.specs.Part.{ControlPart, standing_values}
use Rattle.emtp_fix.specs.Chain.{◌>>=◌}
use Rattle.emtp_tacs.specs.Step.{Measured, SoFar, Solved, accepted, block_var, blocks, completed, control_step, device_by, extra_at, extra_by, extra_of, extras, formula_value, group_of, in_turn, is_in_pass, known_before, solved_by, source_at, source_by, source_value, sources, starting, with_outputs, written}
use Rattle.emtp_tacs.specs.declared.fault.TacsFault.{TacsFault}
use Rattle.emtp_fix.proofs.Chaining.{same_ok, then_ok}

-- what holds of each item holds of one that is read
pub read_all : {X : Type 0} (P : X → Type 0) (xs : List X) (n : ℕ) (x : X) → All P xs → slice_get xs n ≡ Some x → P x
read_all P xs n x all is = subst P (get_or_from_slice_get xs n x x is) (all n x (slice_get_within xs n x is))

-- ---- one card

written_six : (var : ℕ) (s t : SoFar) (o : Option ℤ) → 6 ≤ var → written var s o ≡ Ok t → take 6 t.values ≡ take 6 s.values
written_six var s t None own is = absurd (cc)
written_six var s t (Some y) own is = ap (λ (u : SoFar). take 6 u.values) (sym (same_ok _ t is)) ∙ take-set-le 6 s.values var y own

device_six : (n var : ℕ) (s t : SoFar) (o : Option DeviceState) → 6 ≤ var → device_by n var s o ≡ Ok t → take 6 t.values ≡ take 6 s.values
device_six n var s t None own is = absurd (cc)
device_six n var s t (Some d) own is = ap (λ (u : SoFar). take 6 u.values) (sym (same_ok _ t is)) ∙ take-set-le 6 s.values var d.output own

source_six : (case : Parts) (step : ℕ) (m : Measured) (n : ℕ) (s t : SoFar) → IsControl case → source_at case step m n s ≡ Ok t → take 6 t.values ≡ take 6 s.values
source_six case step m n s t control is = by (slice_get case.tacs_sources n) refl is
  where
    by : (o : Option Source) → slice_get case.tacs_sources n ≡ o → source_by case step m s o ≡ Ok t → take 6 t.values ≡ take 6 s.values
    by None there is = ap (λ (u : SoFar). take 6 u.values) (sym (same_ok s t is))
    by (Some x) there is = written_six x.node s t (in_range (source_value case step m x x.shape)) (read_all (IsTacsSource (sizes_of case)) case.tacs_sources n x control.tacs_sources there).own is

extra_six : (case : Parts) (H : List StepRecord) (early : Bool) (n : ℕ) (s t : SoFar) → IsControl case → extra_at case H early n s ≡ Ok t → take 6 t.values ≡ take 6 s.values
extra_six case H early n s t control is = by (slice_get case.extras n) refl is
  where
    computed : (e : Extra) → IsExtra (sizes_of case) case.points e → extra_of case H n s e ≡ Ok t → take 6 t.values ≡ take 6 s.values
    computed (OfFormula x) fits is = written_six x.var s t (formula_value s.values x) fits.own is
    computed (OfDevice x) fits is = device_six n x.var s t (next_state case x (length H) s.values (states_of n H)) fits.card.own is

    by_pass : (b : Bool) (e : Extra) → IsExtra (sizes_of case) case.points e → (if b then extra_of case H n s e else Ok s) ≡ Ok t → take 6 t.values ≡ take 6 s.values
    by_pass true e fits is = computed e fits is
    by_pass false e fits is = ap (λ (u : SoFar). take 6 u.values) (sym (same_ok s t is))

    by : (o : Option Extra) → slice_get case.extras n ≡ o → extra_by case H early n s o ≡ Ok t → take 6 t.values ≡ take 6 s.values
    by None there is = ap (λ (u : SoFar). take 6 u.values) (sym (same_ok s t is))
    by (Some e) there is = by_pass (is_in_pass early (group_of e)) e (read_all (IsExtra (sizes_of case) case.points) case.extras n e control.extras there) is

-- ---- all cards

in_turn_six : (f : ℕ → SoFar → Result SoFar TacsFault) → ((n : ℕ) (s t : SoFar) → f n s ≡ Ok t → take 6 t.values ≡ take 6 s.values) → (n : ℕ) (s t : SoFar) → in_turn f n s ≡ Ok t → take 6 t.values ≡ take 6 s.values
in_turn_six f keeps zero s t is = ap (λ (u : SoFar). take 6 u.values) (sym (same_ok s t is))
in_turn_six f keeps (suc n) s t is =
    let one = then_ok (in_turn f n s) (f n) t is in
    keeps n one.0 t one.2 ∙ in_turn_six f keeps n s one.0 one.1

no_block_card : Block
no_block_card = record { line = 0; var = 0; order = 0; inputs = []; gain = pos 0; top = []; bottom = []; low = NoBound; high = NoBound }

own_block : (case : Parts) (n : ℕ) → IsControl case → n < length case.blocks → 6 ≤ block_var case n
own_block case n control below =
    let some = slice_get-get_or case.blocks n no_block_card below in
    let own : 6 ≤ (get_or case.blocks n no_block_card).var = (read_all (IsBlock case.run (sizes_of case)) case.blocks n (get_or case.blocks n no_block_card) control.blocks some).own in
    omega (arith, own, get_or-map (λ (b : Block). b.var) case.blocks n no_block_card 0 below)

outputs_six : (case : Parts) (ys : List ℤ) (n : ℕ) (known : List ℤ) → IsControl case → n ≤ length case.blocks → take 6 (with_outputs case ys n known) ≡ take 6 known
outputs_six case ys zero known control within = refl
outputs_six case ys (suc n) known control within =
    take-set-le 6 (with_outputs case ys n known) (block_var case n) (item ys n) (own_block case n control (omega (arith, within))) ∙ outputs_six case ys n known control (omega (arith, within))

blocks_six : (case : Parts) (H : List StepRecord) (known : List ℤ) (t : Solved) → IsControl case → blocks case H known ≡ Ok t → take 6 t.values ≡ take 6 known
blocks_six case H known t control is = by (outcome (matrix case H) (right case H known)) is
  where
    range : (xs : List ℤ) (o : Option ℕ) → accepted case H known xs o ≡ Ok t → take 6 t.values ≡ take 6 known
    range xs (Some i) is = absurd (cc)
    range xs None is = ap (λ (u : Solved). take 6 u.values) (sym (same_ok _ t is)) ∙ outputs_six case _ (length case.blocks) known control (omega arith)

    by : (o : Result (List ℤ) PlainFault) → solved_by case H known o ≡ Ok t → take 6 t.values ≡ take 6 known
    by (Err fault) is = absurd (cc)
    by (Ok xs) is = range xs (first_out case H known xs) is

-- ---- the step

part_six : (last : SoFar) (bs : List BlockState) (part : ControlPart) → (let made : Result ControlPart TacsFault = Ok (record { values = last.values; blocks = bs; devices = last.devices }) in made) ≡ Ok part → take 6 part.values ≡ take 6 last.values
part_six last bs part is = ap (λ (p : ControlPart). take 6 p.values) (sym (same_ok (record { values = last.values; blocks = bs; devices = last.devices }) part is))

pub standing_stay : (case : Parts) (H : List StepRecord) (m : Measured) (part : ControlPart) → IsControl case → control_step case H m ≡ Ok part → take 6 part.values ≡ standing_values case.run (length H)
unfolding control_step
standing_stay case H m part control made =
    let known = then_ok (known_before case H m) (λ known. blocks case H known.values >>= completed case H known) part made in
    let first = then_ok (sources case (length H) m (starting case H)) (extras case H true) known.0 known.1 in
    let solved = then_ok (blocks case H known.0.values) (completed case H known.0) part known.2 in
    let last = then_ok (extras case H false (record known.0 { values = solved.0.values })) (λ (last : SoFar). Ok (record { values = last.values; blocks = solved.0.blocks; devices = last.devices })) part solved.2 in
    part_six last.0 solved.0.blocks part last.2
    ∙ in_turn_six (extra_at case H false) (λ n s t is. extra_six case H false n s t control is) (length case.extras) (record known.0 { values = solved.0.values }) last.0 last.1
    ∙ blocks_six case H known.0.values solved.0 control solved.1
    ∙ in_turn_six (extra_at case H true) (λ n s t is. extra_six case H true n s t control is) (length case.extras) first.0 known.0 first.2
    ∙ in_turn_six (source_at case (length H) m) (λ n s t is. source_six case (length H) m n s t control is) (length case.tacs_sources) (starting case H) first.0 first.1
