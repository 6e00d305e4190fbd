-- A control without cards.
use Rattle.std.proofs.Common.{◌≡◌, ◌∙◌, sym, ap, subst, ℤ, true, false, ◌++◌, drop, List, [], ◌∷◌, length, Ok, None, refl, arith}
use Rattle.std.proofs.lemmas.Option.{slice_get_within}
use Rattle.emtp_blocks.proofs.Matrices.{length-control_matrix}
use Rattle.emtp_blocks.specs.held.BlockRows.{Blocking, StandsFor as BlocksStandFor}
use Rattle.emtp_blocks.specs.System.{first_out, limiters_of, matrix, outputs, right, states_after}
use Rattle.emtp_case.specs.held.Case.{HasNoControl}
use Rattle.emtp_case.specs.StepRecord.{StepRecord, latest}
use Rattle.emtp_case.specs.declared.case.Parts.{Parts}
use Rattle.emtp_elim.specs.Elimination.{solution}
use Rattle.emtp_elim.specs.Matrix.{Matrix}
use Rattle.emtp_elim.specs.Outcome.{outcome}
use Rattle.emtp_tacs.specs.Part.{standing_values}
use Rattle.emtp_tacs.specs.Step.{Measured, blocks, control_step, extra_at, extras, in_turn, known_before, source_at, sources, starting, with_outputs}
use Rattle.emtp_tacs.specs.held.Stages.{Solves}
use Rattle.emtp_tacs.proofs.Advancing.{step_made}
use Rattle.emtp_tacs.proofs.Systems.{solved_ends}

empty : (m : Matrix) → length m ≡ 0 → m ≡ []
empty [] is = refl
empty (row ∷ m) is = absurd (cc)

empty_outcome : (r : List ℤ) → outcome [] r ≡ Ok (solution [] r)
unfolding outcome
empty_outcome r = refl

no_states : (case : Parts) (H : List StepRecord) (known xs : List ℤ) → length case.blocks ≡ 0 → states_after case H known xs ≡ []
unfolding states_after
no_states case H known xs none = rw none refl

no_first_out : (case : Parts) (H : List StepRecord) (known xs : List ℤ) → length case.blocks ≡ 0 → first_out case H known xs ≡ None
no_first_out case H known xs none = rw none refl

no_blocks : (case : Parts) (H : List StepRecord) (known : List ℤ) → length case.blocks ≡ 0 → blocks case H known ≡ Ok (record { values = known; blocks = [] })
no_blocks case H known none =
    let rows = empty (matrix case H) (length-control_matrix case (limiters_of case H) ∙ none) in
    let xs = solution [] (right case H known) in
    let is = ap (λ m. outcome m (right case H known)) rows ∙ empty_outcome (right case H known) in
    solved_ends case H known xs is (no_first_out case H known xs none)
    ∙ ap (λ n. Ok (record { values = with_outputs case (outputs case H known xs) n known; blocks = states_after case H known xs })) none
    ∙ ap (λ bs. Ok (record { values = known; blocks = bs })) (no_states case H known xs none)

-- and so they are solved
pub none_solved : (case : Parts) (s : Blocking) (H : List StepRecord) (known : List ℤ) → length case.blocks ≡ 0 → s.case ≡ case → BlocksStandFor s H → Solves (Ok tt) s known H (blocks case H known)
none_solved case s H known none same stands =
    subst (Solves (Ok tt) s known H) (sym (no_blocks case H known none)) (record {
      values_are = refl;
      stands = λ r is. record {
        one_each = stands.one_each;
        blocks = λ i b here. absurd (omega (arith, slice_get_within s.case.blocks i b here, ap (λ (p : Parts). length p.blocks) same, none));
      };
    })

pub no_cards : (case : Parts) (H : List StepRecord) (m : Measured) → HasNoControl case → control_step case H m ≡ Ok (record { values = standing_values case.run (length H) ++ drop 6 (latest H).values; blocks = []; devices = (latest H).devices })
no_cards case H m has =
    let s = starting case H in
    let first : sources case (length H) m s ≡ Ok s = ap (λ n. in_turn (source_at case (length H) m) n s) (ap length has.tacs_sources) in
    let early : extras case H true s ≡ Ok s = ap (λ n. in_turn (extra_at case H true) n s) (ap length has.extras) in
    let late : extras case H false s ≡ Ok s = ap (λ n. in_turn (extra_at case H false) n s) (ap length has.extras) in
    let known : known_before case H m ≡ Ok s = rw first early in
    step_made case H m s s (record { values = s.values; blocks = [] }) known (no_blocks case H s.values (ap length has.blocks)) late
