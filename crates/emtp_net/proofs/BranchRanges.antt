-- The current that a branch keeps of a step is in range.
use Rattle.std.proofs.Common.{ℕ, ℤ, ◌-ℤ◌, true, false, List, Option, Some, None, IfSome, option_map}
use Rattle.emtp_case.specs.StepRecord.{LineBranch, LumpedBranch, PhaseBranch, PseudoBranch, StepRecord, current_of}
use Rattle.emtp_case.specs.declared.branch.Branch.{Branch}
use Rattle.emtp_case.specs.declared.branch.Branch.TheVariants.{Line as OfLine, Lumped as OfLumped, Phase as OfPhase, Pseudo as OfPseudo}
use Rattle.emtp_case.specs.declared.case.Parts.{Parts}
use Rattle.emtp_fix.proofs.Ranges.{IsSmall}
use Rattle.emtp_line.proofs.CurrentRanges.{line_small, phase_small}
use Rattle.emtp_lumped.proofs.CurrentRanges.{current_small as lumped_small}
use Rattle.emtp_pseudo.proofs.CurrentRanges.{current_small as pseudo_small}
use Rattle.emtp_line.specs.Line.{line_histories, line_state}
use Rattle.emtp_line.specs.Lines as lined
use Rattle.emtp_line.specs.Mode.{mode_of_line}
use Rattle.emtp_line.specs.Phases.{from_histories, modes_of, phase_end, phase_state, to_histories}
use Rattle.emtp_lumped.specs.Companion.{companion_of}
use Rattle.emtp_lumped.specs.Lumps as lumped
use Rattle.emtp_lumped.specs.Step.{next_state as next_lumped}
use Rattle.emtp_pseudo.specs.Pseudos as pseudo
use Rattle.emtp_pseudo.specs.Step.{next_state as next_pseudo}
use Rattle.emtp_elim.specs.Matrix.{item}
use Rattle.emtp_net.specs.Part.{phase_voltages, state_by}

mapped : {A B : Type 0} (f : A → B) (Q : B → Type 0) (o : Option A) → IfSome o (λ x. Q (f x)) → IfSome (option_map f o) Q
mapped f Q None held = tt
mapped f Q (Some x) held = held

pub state_small : (case : Parts) (H : List StepRecord) (vs : List ℤ) (b : ℕ) (branch : Option Branch) → IfSome (state_by case H vs b branch) (λ s. IsSmall (current_of s))
state_small case H vs b None = tt
state_small case H vs b (Some (OfLumped x)) =
    let past = lumped.newest (lumped.states_of b H) in
    let v = item vs x.from -ℤ item vs x.to in
    mapped LumpedBranch (λ s. IsSmall (current_of s)) (next_lumped (companion_of case.run.dt x) past v) (lumped_small (companion_of case.run.dt x) past v)
state_small case H vs b (Some (OfLine x)) =
    let m = mode_of_line case.run.dt x in
    let histories = line_histories m (lined.states_of b H) in
    mapped LineBranch (λ s. IsSmall (current_of s)) (line_state m histories (item vs x.from) (item vs x.to)) (line_small m histories (item vs x.from) (item vs x.to))
state_small case H vs b (Some (OfPseudo x)) =
    let past = pseudo.moments_of x b H in
    let v = item vs x.from -ℤ item vs x.to in
    mapped PseudoBranch (λ s. IsSmall (current_of s)) (next_pseudo x.reactor case.run.dt (pseudo.present case x past) (pseudo.newest past) v) (pseudo_small x.reactor case.run.dt (pseudo.present case x past) (pseudo.newest past) v)
state_small case H vs b (Some (OfPhase x)) =
    let m = modes_of case.run.dt (lined.trio_of case x.trio) in
    let past = lined.phase_states_of case x.trio H in
    let first = phase_end m (from_histories m past) (phase_voltages case false x.trio vs) in
    let second = phase_end m (to_histories m past) (phase_voltages case true x.trio vs) in
    mapped PhaseBranch (λ s. IsSmall (current_of s)) (phase_state first second x.phase) (phase_small first second x.phase)
