-- A step of the control that has no part names a variable of the case.
use Rattle.std.proofs.Common.{◌≡◌, ◌<◌, ℕ, zero, suc, ℤ, if◌then◌else◌, Bool, true, false, List, length, map, slice_get, slice_index_or, All, [], ◌∷◌, Option, Some, None, Result, Ok, Err, IfErr, refl, subst, arith}
use Rattle.std.proofs.lemmas.Option.{get_or_from_slice_get, slice_get_within}
use Rattle.emtp_blocks.proofs.Matrices.{length-control_matrix}
use Rattle.emtp_blocks.specs.System.{first_out, limiters_of, matrix, right}
use Rattle.emtp_case.proofs.Places.{place_within}
use Rattle.emtp_case.specs.held.Case.{IsCase}
use Rattle.emtp_case.specs.held.Control.{IsExtra}
use Rattle.emtp_case.specs.held.Sizes.{sizes_of}
use Rattle.emtp_case.specs.StepRecord.{StepRecord}
use Rattle.emtp_case.specs.declared.case.Parts.{Parts}
use Rattle.emtp_case.specs.declared.control.Block.{Block}
use Rattle.emtp_case.specs.declared.control.DeviceState.{DeviceState}
use Rattle.emtp_case.specs.declared.control.Extra.{Extra}
use Rattle.emtp_case.specs.declared.control.Extra.TheVariants.{Device as OfDevice, Formula as OfFormula}
use Rattle.emtp_case.specs.declared.source.Source.{Source}
use Rattle.emtp_elim.proofs.ChainErrors.{then_err}
use Rattle.emtp_elim.proofs.RowsOfFaults.{NamesRow, outcome_names_row}
use Rattle.emtp_elim.specs.Outcome.{outcome}
use Rattle.emtp_elim.specs.declared.fault.PlainFault.{PlainFault}
use Rattle.emtp_elim.specs.declared.fault.PlainFault.TheVariants.{NoMemory, Row, Solve}
use Rattle.emtp_tacs.specs.held.Stages.{NamesVariable}
use Rattle.emtp_tacs.specs.Step.{Measured, SoFar, accepted, block_var, blocks, control_step, device_by, extra_at, extra_by, extra_of, extras, group_of, in_turn, is_in_pass, known_before, solved_by, source_at, source_by, sources, starting, written}
use Rattle.emtp_tacs.specs.declared.fault.TacsFault.{TacsFault}

-- a fault, if there is one, names a variable
abbrev pub IsFine : {A : Type 0} → Parts → Result A TacsFault → Type 0
IsFine case r = IfErr r (NamesVariable case)

in_turn_fine : (case : Parts) (f : ℕ → SoFar → Result SoFar TacsFault) (n : ℕ) (s : SoFar) → ((k : ℕ) (t : SoFar) → IsFine case (f k t)) → IsFine case (in_turn f n s)
in_turn_fine case f zero s each = tt
in_turn_fine case f (suc n) s each = then_err (NamesVariable case) (in_turn f n s) (f n) (in_turn_fine case f n s each) (λ t is. each n t)

-- ---- cards

-- what is at a place is one of all
at_place : {X : Type 0} (P : X → Type 0) (xs : List X) (n : ℕ) (x : X) → All P xs → slice_get xs n ≡ Some x → P x
at_place P xs n x all is = subst P (get_or_from_slice_get xs n x x is) (all n x (slice_get_within xs n x is))

written_fine : (case : Parts) (var : ℕ) (s : SoFar) (o : Option ℤ) → var < length case.vars → IsFine case (written var s o)
written_fine case var s None there = there
written_fine case var s (Some y) there = tt

source_fine : (case : Parts) (step : ℕ) (m : Measured) (s : SoFar) (o : Option Source) → ((x : Source) → o ≡ Some x → x.node < length case.vars) → IsFine case (source_by case step m s o)
source_fine case step m s None there = tt
source_fine case step m s (Some x) there = written_fine case x.node s _ (there x refl)

sources_fine : (case : Parts) (step : ℕ) (m : Measured) (s : SoFar) → IsCase case → IsFine case (sources case step m s)
sources_fine case step m s fits =
    in_turn_fine case (source_at case step m) (length case.tacs_sources) s (λ n t.
    source_fine case step m t (slice_get case.tacs_sources n) (λ x is. at_place (λ (y : Source). y.node < length case.vars) case.tacs_sources n x (λ k d below. (fits.draft.control.tacs_sources k d below).there) is))

device_fine : (case : Parts) (n var : ℕ) (s : SoFar) (o : Option DeviceState) → var < length case.vars → IsFine case (device_by n var s o)
device_fine case n var s None there = there
device_fine case n var s (Some d) there = tt

card_fine : (case : Parts) (H : List StepRecord) (n : ℕ) (s : SoFar) (e : Extra) → IsExtra (sizes_of case) case.points e → IsFine case (extra_of case H n s e)
card_fine case H n s (OfFormula x) h = written_fine case x.var s _ h.there
card_fine case H n s (OfDevice x) h = device_fine case n x.var s _ h.card.there

either_fine : {A : Type 0} (case : Parts) (b : Bool) (m : Result A TacsFault) (x : A) → IsFine case m → IsFine case (if b then m else Ok x)
either_fine case true m x h = h
either_fine case false m x h = tt

extra_fine : (case : Parts) (H : List StepRecord) (early : Bool) (n : ℕ) (s : SoFar) (o : Option Extra) → ((e : Extra) → o ≡ Some e → IsExtra (sizes_of case) case.points e) → IsFine case (extra_by case H early n s o)
extra_fine case H early n s None there = tt
extra_fine case H early n s (Some e) there = either_fine case (is_in_pass early (group_of e)) (extra_of case H n s e) s (card_fine case H n s e (there e refl))

extras_fine : (case : Parts) (H : List StepRecord) (early : Bool) (s : SoFar) → IsCase case → IsFine case (extras case H early s)
extras_fine case H early s fits =
    in_turn_fine case (extra_at case H early) (length case.extras) s (λ n t.
    extra_fine case H early n t (slice_get case.extras n) (λ e is. at_place (IsExtra (sizes_of case) case.points) case.extras n e fits.draft.control.extras is))

-- ---- blocks

block_there : (case : Parts) (bs : List Block) (i : ℕ) → All (λ (b : Block). b.var < length case.vars) bs → i < length bs → slice_index_or (map (λ (b : Block). b.var) bs) i 0 < length case.vars
block_there case bs zero all below = first bs all below
  where
    first : (bs : List Block) → All (λ (b : Block). b.var < length case.vars) bs → 0 < length bs → slice_index_or (map (λ (b : Block). b.var) bs) 0 0 < length case.vars
    first [] all below = absurd (omega (arith, below))
    first (b ∷ bs) all below = all 0 b below
block_there case [] (suc i) all below = absurd (omega (arith, below))
block_there case (b ∷ bs) (suc i) all below = block_there case bs i (λ k d inside. all (suc k) d (omega (arith, inside))) (omega (arith, below))

var_there : (case : Parts) (i : ℕ) → IsCase case → i < length case.blocks → block_var case i < length case.vars
var_there case i fits below = block_there case case.blocks i (λ k d inside. (fits.draft.control.blocks k d inside).there) below

accepted_fine : (case : Parts) (H : List StepRecord) (known xs : List ℤ) (o : Option ℕ) → IsCase case → ((i : ℕ) → o ≡ Some i → i < length case.blocks) → IsFine case (accepted case H known xs o)
accepted_fine case H known xs None fits there = tt
accepted_fine case H known xs (Some i) fits there = var_there case i fits (there i refl)

solved_fine : (case : Parts) (H : List StepRecord) (known : List ℤ) (o : Result (List ℤ) PlainFault) → IsCase case → IfErr o (NamesRow (length case.blocks)) → IsFine case (solved_by case H known o)
solved_fine case H known (Ok xs) fits there = accepted_fine case H known xs (first_out case H known xs) fits (λ i is. place_within _ (length case.blocks) i is)
solved_fine case H known (Err (Row fault)) fits there = var_there case fault.row fits there
solved_fine case H known (Err (Solve fault)) fits there = var_there case fault.row fits there
solved_fine case H known (Err NoMemory) fits there = absurd there

blocks_fine : (case : Parts) (H : List StepRecord) (known : List ℤ) → IsCase case → IsFine case (blocks case H known)
blocks_fine case H known fits =
    let solved = outcome (matrix case H) (right case H known) in
    solved_fine case H known solved fits (subst (λ n. IfErr solved (NamesRow n)) (length-control_matrix case (limiters_of case H)) (outcome_names_row (matrix case H) (right case H known)))

-- ---- the step

pub control_fine : (case : Parts) (H : List StepRecord) (m : Measured) → IsCase case → IsFine case (control_step case H m)
unfolding control_step
control_fine case H m fits =
    let P = NamesVariable case in
    then_err P (known_before case H m) _
    (then_err P (sources case (length H) m (starting case H)) (extras case H true) (sources_fine case (length H) m (starting case H) fits) (λ s is. extras_fine case H true s fits))
    (λ known is.
    then_err P (blocks case H known.values) _ (blocks_fine case H known.values fits)
    (λ solved is. then_err P (extras case H false (record known { values = solved.values })) _ (extras_fine case H false (record known { values = solved.values }) fits) (λ last is. tt)))
