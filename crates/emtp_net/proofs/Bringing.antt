-- What a branch brings by its currents of the last record.
use Rattle.std.proofs.Common.{◌≡◌, ◌∙◌, sym, ap, subst, ℕ, ◌<◌, ℤ, pos, ◌-ℤ◌, List, length, slice_get, IsSome, Option, option_map, unwrap_or, Some, None, refl, arith}
use Rattle.std.proofs.lemmas.List.FromFn.{get_or-map-range_with_len, length-map-range_with_len}
use Rattle.std.proofs.lemmas.Option.{slice_get-get_or}
use Rattle.emtp_case.specs.StepRecord.{StepRecord, BranchState, LumpedBranch, LineBranch, PseudoBranch, PhaseBranch, current_of, line_at, line_state_of, no_line, no_lumped, no_phase, phase_state_at, phase_state_of}
use Rattle.emtp_case.specs.declared.branch.Branch.TheVariants.{Lumped as OfLumped, Pseudo as OfPseudo}
use Rattle.emtp_case.specs.declared.branch.Line.{Line}
use Rattle.emtp_case.specs.declared.branch.LineState.{LineState}
use Rattle.emtp_case.specs.declared.branch.Lumped.{Lumped}
use Rattle.emtp_case.specs.declared.branch.PhaseState.{PhaseState}
use Rattle.emtp_case.specs.declared.branch.Pseudo.{Pseudo}
use Rattle.emtp_case.specs.declared.case.Parts.{Parts}
use Rattle.emtp_elim.specs.Matrix.{item}
use Rattle.emtp_lumped.specs.Lumps as lumped
use Rattle.emtp_pseudo.specs.Pseudos as pseudo
use Rattle.emtp_net.proofs.Moves.{next_state_read}
use Rattle.emtp_net.specs.held.Moving.{HaveMoved, IsNext}
use Rattle.emtp_net.specs.Part.{brought_by, state_at, state_by, states_at}
use Rattle.emtp_net.specs.System.{taken, through}
use Rattle.emtp_net.specs.declared.branches.Branches.{Branches}

-- the state that is there
pub there_is : {X Y : Type 0} (f : X → Y) (o : Option X) → IsSome (option_map f o) → (x : X) × (o ≡ Some x)
there_is f (Some x) some = (x, refl)
there_is f None some = absurd (cc)

-- what the record keeps of a branch
pub record_reads : (case : Parts) (H : List StepRecord) (vs : List ℤ) (r : StepRecord) (b : ℕ) (state : BranchState) → IsNext case H vs r → b < length case.branches → state_at case H vs b ≡ Some state → slice_get r.branches b ≡ Some state
record_reads case H vs r b state next below is =
    let g : ℕ → BranchState = λ b. unwrap_or (state_at case H vs b) (LumpedBranch no_lumped) in
    let size = length-map-range_with_len g 0 (length case.branches) in
    ap (λ bs. slice_get bs b) next.branches ∙ slice_get-get_or (states_at case H vs) b (LumpedBranch no_lumped) (omega (arith, below, size))
    ∙ ap Some (get_or-map-range_with_len g 0 (length case.branches) b b (LumpedBranch no_lumped) below (omega arith) ∙ ap (λ o. unwrap_or o (LumpedBranch no_lumped)) is)

pub lumped_brings : (case : Parts) (H : List StepRecord) (vs currents : List ℤ) (r : StepRecord) (s : Branches) (at : ℕ) (x : Lumped) → at < length case.branches → slice_get case.branches at ≡ Some (OfLumped x) → IsNext case H vs r → HaveMoved s currents case H vs → through (item currents at) ≡ brought_by (slice_get r.branches at)
lumped_brings case H vs currents r s at x there is next moved =
    let f = lumped.next_of case x (lumped.states_of at H) (item vs x.from -ℤ item vs x.to) in
    let of : state_at case H vs at ≡ option_map LumpedBranch f = ap (state_by case H vs at) is in
    let found = there_is LumpedBranch f (subst IsSome of (moved.in_range at there)) in
    let state = of ∙ ap (option_map LumpedBranch) found.1 in
    let current = (moved.are_currents r next).lumps at x there is ∙ next_state_read current_of (pos 0) case H vs r at (LumpedBranch found.0) next there state in
    ap through current ∙ sym (ap brought_by (record_reads case H vs r at (LumpedBranch found.0) next there state))

pub pseudo_brings : (case : Parts) (H : List StepRecord) (vs currents : List ℤ) (r : StepRecord) (s : Branches) (at : ℕ) (x : Pseudo) → at < length case.branches → slice_get case.branches at ≡ Some (OfPseudo x) → IsNext case H vs r → HaveMoved s currents case H vs → through (item currents at) ≡ brought_by (slice_get r.branches at)
pseudo_brings case H vs currents r s at x there is next moved =
    let f = pseudo.next_of case x (pseudo.moments_of x at H) (item vs x.from -ℤ item vs x.to) in
    let of : state_at case H vs at ≡ option_map PseudoBranch f = ap (state_by case H vs at) is in
    let found = there_is PseudoBranch f (subst IsSome of (moved.in_range at there)) in
    let state = of ∙ ap (option_map PseudoBranch) found.1 in
    let current = (moved.are_currents r next).pseudos at x there is ∙ next_state_read current_of (pos 0) case H vs r at (PseudoBranch found.0) next there state in
    ap through current ∙ sym (ap brought_by (record_reads case H vs r at (PseudoBranch found.0) next there state))

-- a line by the state that the record keeps of it
pub line_brings : (case : Parts) (H : List StepRecord) (vs currents : List ℤ) (r : StepRecord) (s : Branches) (at : ℕ) (x : Line) (o : Option LineState) → at < length case.branches → state_at case H vs at ≡ option_map LineBranch o → IsNext case H vs r → HaveMoved s currents case H vs
    → taken ((line_at at r).from_current, (line_at at r).to_current) ≡ brought_by (slice_get r.branches at)
line_brings case H vs currents r s at x o there of next moved =
    let found = there_is LineBranch o (subst IsSome of (moved.in_range at there)) in
    let state = of ∙ ap (option_map LineBranch) found.1 in
    let read = next_state_read line_state_of no_line case H vs r at (LineBranch found.0) next there state in
    ap (λ (z : LineState). taken (z.from_current, z.to_current)) read ∙ sym (ap brought_by (record_reads case H vs r at (LineBranch found.0) next there state))

-- and a phase
pub phase_brings : (case : Parts) (H : List StepRecord) (vs currents : List ℤ) (r : StepRecord) (s : Branches) (at : ℕ) (o : Option PhaseState) → at < length case.branches → state_at case H vs at ≡ option_map PhaseBranch o → IsNext case H vs r → HaveMoved s currents case H vs
    → taken ((phase_state_at at r).from_current, (phase_state_at at r).to_current) ≡ brought_by (slice_get r.branches at)
phase_brings case H vs currents r s at o there of next moved =
    let found = there_is PhaseBranch o (subst IsSome of (moved.in_range at there)) in
    let state = of ∙ ap (option_map PhaseBranch) found.1 in
    let read = next_state_read phase_state_of no_phase case H vs r at (PhaseBranch found.0) next there state in
    ap (λ (z : PhaseState). taken (z.from_current, z.to_current)) read ∙ sym (ap brought_by (record_reads case H vs r at (PhaseBranch found.0) next there state))
