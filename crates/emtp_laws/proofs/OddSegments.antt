-- Pseudo-nonlinear branches are odd, on whatever segment.
use Rattle.std.proofs.Common.{◌≡◌, ◌∙◌, ℤ, neg_ℤ, List, [], ◌∷◌, map, Option, Some, None, option_map, refl, ap}
use Rattle.emtp_case.specs.Branch.{points_of}
use Rattle.emtp_case.specs.held.Branch.{IsCharacteristic}
use Rattle.emtp_case.specs.declared.branch.Pseudo.{Pseudo}
use Rattle.emtp_case.specs.declared.branch.PseudoState.{PseudoState}
use Rattle.emtp_case.specs.declared.case.Parts.{Parts}
use Rattle.emtp_pseudo.proofs.Odd.{history_turned, ordered, segment_turned, step_turned}
use Rattle.emtp_pseudo.specs.Laws.{mirrored_moment, mirrored_next, mirrored_state}
use Rattle.emtp_pseudo.specs.Pseudos.{newest, next_history_current, next_of, present}
use Rattle.emtp_pseudo.specs.Segment.{mirrored, segment_of}
use Rattle.emtp_pseudo.specs.Step.{history_current_of, next_state}
use Rattle.emtp_pseudo.specs.declared.moment.Moment.{Moment}
use Rattle.emtp_pseudo.specs.declared.segment.Segment.{Segment}

newest_turned : (past : List Moment) → newest (map mirrored_moment past) ≡ mirrored_moment (newest past)
newest_turned [] = refl
newest_turned (m ∷ past) = refl

as_map : (o : Option PseudoState) → mirrored_next o ≡ option_map mirrored_state o
as_map None = refl
as_map (Some s) = refl

pub present_turned : (case : Parts) (x : Pseudo) (past : List Moment) → present case x (map mirrored_moment past) ≡ mirrored (present case x past)
present_turned case x past =
    let ps = points_of case.points x.first x.count in
    ap (λ (m : Moment). segment_of x.reactor case.run.dt ps m.state.segment) (newest_turned past)
    ∙ segment_turned x.reactor case.run.dt ps (newest past).state.segment

pub pseudo_history : (case : Parts) (x : Pseudo) (past : List Moment) → next_history_current case x (map mirrored_moment past) ≡ neg_ℤ (next_history_current case x past)
pseudo_history case x past =
    ap (λ (s : Segment). history_current_of x.reactor s (newest (map mirrored_moment past))) (present_turned case x past)
    ∙ ap (λ (m : Moment). history_current_of x.reactor (mirrored (present case x past)) m) (newest_turned past)
    ∙ history_turned x.reactor (present case x past) (newest past)

pub pseudo_turned : (case : Parts) (x : Pseudo) (past : List Moment) (v : ℤ) → IsCharacteristic x.reactor case.run.dt (points_of case.points x.first x.count)
    → next_of case x (map mirrored_moment past) (neg_ℤ v) ≡ option_map mirrored_state (next_of case x past v)
pseudo_turned case x past v h =
    let ps = points_of case.points x.first x.count in
    ap (λ (s : Segment). next_state x.reactor case.run.dt s (newest (map mirrored_moment past)) (neg_ℤ v)) (present_turned case x past)
    ∙ ap (λ (m : Moment). next_state x.reactor case.run.dt (mirrored (present case x past)) m (neg_ℤ v)) (newest_turned past)
    ∙ step_turned x.reactor case.run.dt (present case x past) (newest past) v (ordered x.reactor case.run.dt ps (newest past).state.segment h)
    ∙ as_map (next_of case x past v)
