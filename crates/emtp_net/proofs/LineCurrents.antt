-- The branch currents of lines and phases in a record.
use Rattle.std.proofs.Common.{◌≡◌, ◌∙◌, sym, ap, subst, ℕ, zero, suc, ◌+◌, ◌<◌, ℤ, pos, List, [], ◌∷◌, length, map, slice_index_or, IsSome, Option, option_map, refl, arith}
use Rattle.std.proofs.lemmas.Option.{slice_get_within}
use Rattle.emtp_case.specs.StepRecord.{StepRecord, LineBranch, PhaseBranch, branch_at_rest, branch_current_at, current_of, latest, line_at, line_state_of, no_line, no_phase, phase_state_at, phase_state_of, rest_of}
use Rattle.emtp_case.specs.declared.branch.Branch.{Branch}
use Rattle.emtp_case.specs.declared.branch.Branch.TheVariants.{Lumped as OfLumped, Line as OfLine, Pseudo as OfPseudo, Phase as OfPhase}
use Rattle.emtp_case.specs.declared.branch.LineState.{LineState}
use Rattle.emtp_case.specs.declared.branch.PhaseState.{PhaseState}
use Rattle.emtp_case.specs.declared.case.Parts.{Parts}
use Rattle.emtp_elim.specs.Matrix.{item}
use Rattle.emtp_line.specs.Line.{next_state as next_line}
use Rattle.emtp_line.specs.Lines as lined
use Rattle.emtp_line.specs.Mode.{mode_of_line}
use Rattle.emtp_net.proofs.Bringing.{there_is}
use Rattle.emtp_net.proofs.Moves.{next_state_read}
use Rattle.emtp_net.proofs.PhaseMoves.{phase_next}
use Rattle.emtp_net.specs.held.Branches.{StandsFor}
use Rattle.emtp_net.specs.held.Moving.{AreCurrents, AreLineCurrents, IsNext}
use Rattle.emtp_net.specs.Part.{state_at, state_by}
use Rattle.emtp_net.specs.held.Stages.{AllInRange}
use Rattle.emtp_net.specs.declared.branches.Branches.{Branches}

line_current : (case : Parts) (H : List StepRecord) (vs : List ℤ) (r : StepRecord) (b : ℕ) (o : Option LineState) → b < length case.branches → state_at case H vs b ≡ option_map LineBranch o → IsNext case H vs r → IsSome (state_at case H vs b) → branch_current_at b r ≡ (line_at b r).from_current
line_current case H vs r b o there of next some =
    let found = there_is LineBranch o (subst IsSome of some) in
    let state = of ∙ ap (option_map LineBranch) found.1 in
    next_state_read current_of (pos 0) case H vs r b (LineBranch found.0) next there state ∙ sym (ap (λ (z : LineState). z.from_current) (next_state_read line_state_of no_line case H vs r b (LineBranch found.0) next there state))

phase_current : (case : Parts) (H : List StepRecord) (vs : List ℤ) (r : StepRecord) (b : ℕ) (o : Option PhaseState) → b < length case.branches → state_at case H vs b ≡ option_map PhaseBranch o → IsNext case H vs r → IsSome (state_at case H vs b) → branch_current_at b r ≡ (phase_state_at b r).from_current
phase_current case H vs r b o there of next some =
    let found = there_is PhaseBranch o (subst IsSome of some) in
    let state = of ∙ ap (option_map PhaseBranch) found.1 in
    next_state_read current_of (pos 0) case H vs r b (PhaseBranch found.0) next there state ∙ sym (ap (λ (z : PhaseState). z.from_current) (next_state_read phase_state_of no_phase case H vs r b (PhaseBranch found.0) next there state))

pub line_currents_next : (case : Parts) (H : List StepRecord) (vs : List ℤ) (r : StepRecord) → AllInRange case H vs → IsNext case H vs r → AreLineCurrents case r
line_currents_next case H vs r in_range next = record {
  lines = λ b x is.
      let there = slice_get_within case.branches b (OfLine x) is in
      line_current case H vs r b (next_line (mode_of_line case.run.dt x) (lined.states_of b H) (item vs x.from) (item vs x.to)) there (ap (state_by case H vs b) is) next (in_range b there);
  phases = λ b x is.
      let there = slice_get_within case.branches b (OfPhase x) is in
      phase_current case H vs r b (phase_next case H vs x.trio x.phase) there (ap (state_by case H vs b) is) next (in_range b there);
}

-- ---- at rest

current_rest : (y : Branch) → current_of (branch_at_rest y) ≡ pos 0
current_rest (OfLumped x) = refl
current_rest (OfLine x) = refl
current_rest (OfPseudo x) = refl
current_rest (OfPhase x) = refl

line_rest : (y : Branch) → (line_state_of (branch_at_rest y)).from_current ≡ pos 0
line_rest (OfLumped x) = refl
line_rest (OfLine x) = refl
line_rest (OfPseudo x) = refl
line_rest (OfPhase x) = refl

phase_rest : (y : Branch) → (phase_state_of (branch_at_rest y)).from_current ≡ pos 0
phase_rest (OfLumped x) = refl
phase_rest (OfLine x) = refl
phase_rest (OfPseudo x) = refl
phase_rest (OfPhase x) = refl

pub currents_rest : (bs : List Branch) (b : ℕ) → slice_index_or (map current_of (map branch_at_rest bs)) b (pos 0) ≡ pos 0
currents_rest [] b = refl
currents_rest (y ∷ bs) zero = current_rest y
currents_rest (y ∷ bs) (suc b) = currents_rest bs b

lines_rest : (bs : List Branch) (b : ℕ) → (slice_index_or (map line_state_of (map branch_at_rest bs)) b no_line).from_current ≡ pos 0
lines_rest [] b = refl
lines_rest (y ∷ bs) zero = line_rest y
lines_rest (y ∷ bs) (suc b) = lines_rest bs b

phases_rest : (bs : List Branch) (b : ℕ) → (slice_index_or (map phase_state_of (map branch_at_rest bs)) b no_phase).from_current ≡ pos 0
phases_rest [] b = refl
phases_rest (y ∷ bs) zero = phase_rest y
phases_rest (y ∷ bs) (suc b) = phases_rest bs b

pub line_currents_rest : (case : Parts) → AreLineCurrents case (rest_of case)
line_currents_rest case = record {
  lines = λ b x is. currents_rest case.branches b ∙ sym (lines_rest case.branches b);
  phases = λ b x is. currents_rest case.branches b ∙ sym (phases_rest case.branches b);
}

-- ---- of the last record

pub current_at : (case : Parts) (branches : Branches) (currents : List ℤ) (made b : ℕ) (i : ℤ) (H : List StepRecord)
    → ((r : StepRecord) (past : List StepRecord) → StandsFor branches (r ∷ past) → AreCurrents case currents r (length case.branches) → AreLineCurrents case r → i ≡ branch_current_at b r)
    → made + 1 ≡ length H → StandsFor branches H → AreCurrents case currents (latest H) (length case.branches) → AreLineCurrents case (latest H) → i ≡ branch_current_at b (latest H)
current_at case branches currents made b i [] is long stands are lines = absurd (omega (arith, long))
current_at case branches currents made b i (r ∷ past) is long stands are lines = is r past stands are lines
