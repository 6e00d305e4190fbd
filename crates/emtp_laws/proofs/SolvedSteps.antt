-- What a step that is made is.
use Rattle.std.proofs.Common.{◌≡◌, ◌∙◌, ℤ, List, length, Result, Ok, Err, refl, ap, sym}
use Rattle.emtp_case.specs.StepRecord.{StepRecord}
use Rattle.emtp_case.specs.declared.case.Parts.{Parts}
use Rattle.emtp_elim.specs.Elimination.{solution}
use Rattle.emtp_elim.specs.Matrix.{Matrix}
use Rattle.emtp_elim.specs.Fault.{right_fault, row_fault, unknown_fault}
use Rattle.emtp_elim.specs.Outcome.{first_below, last_below, outcome}
use Rattle.emtp_elim.specs.declared.fault.PlainFault.{PlainFault}
use Rattle.emtp_elim.specs.declared.fault.PlainFault.TheVariants.{Row, Solve}
use Rattle.emtp_fix.proofs.Chaining.{same_ok, then_ok, unless_ok}
use Rattle.emtp_machine.specs.Next.{joined, measured_of, next, with_control}
use Rattle.emtp_net.proofs.Ending.{part_branches, part_currents, part_states, part_voltages}
use Rattle.emtp_net.specs.Part.{NetworkPart, part_at, states_at, switch_currents_at, voltages_of}
use Rattle.emtp_net.specs.held.Part.{network_of}
use Rattle.emtp_net.specs.held.Stages.{IsUntied}
use Rattle.emtp_net.specs.Step.{moved, named, network_part, solution as solved, switched, untied}
use Rattle.emtp_net.specs.System.{matrix, right}
use Rattle.emtp_net.specs.declared.fault.NetFault.{NetFault}
use Rattle.emtp_switch.specs.States.{next_states}
use Rattle.emtp_tacs.specs.Part.{ControlPart}
use Rattle.emtp_tacs.specs.Step.{control_step}
use Rattle.emtp_tacs.specs.declared.fault.TacsFault.{TacsFault}

-- its unknowns are those of the elimination, its switches tie no known voltages, and its branches and switch currents follow
-- from its voltages
pub record IsSolved (case : Parts) (H : List StepRecord) (part : NetworkPart) : Type 0 where
  pub free : IsUntied case H
  pub voltages : part.voltages ≡ voltages_of case (solution (matrix case H) (right case H))
  pub states : part.switch_states ≡ next_states case H
  pub branches : part.branches ≡ states_at case H (voltages_of case (solution (matrix case H) (right case H)))
  pub currents : part.switch_currents ≡ switch_currents_at case H part.branches

named_ok : (case : Parts) (o : Result (List ℤ) PlainFault) (x : List ℤ) → named case o ≡ Ok x → o ≡ Ok x
named_ok case (Ok y) x is = cc
named_ok case (Err fault) x is = absurd (cc)

outcome_ok : (rows : Matrix) (given x : List ℤ) → outcome rows given ≡ Ok x → x ≡ solution rows given
unfolding outcome
outcome_ok rows given x is =
    let a = unless_ok (first_below (length rows) (row_fault rows)) Row _ x is in
    let b = unless_ok (first_below (length rows) (right_fault rows given)) Solve _ x a.1 in
    let c = unless_ok (last_below (length rows) (unknown_fault rows given)) Solve _ x b.1 in
    sym (same_ok (solution rows given) x c.1)

pub step_solved : (case : Parts) (H : List StepRecord) (part : NetworkPart) → network_part case H ≡ Ok part → IsSolved case H part
unfolding network_part
step_solved case H part is =
    let a = then_ok (untied case H) _ part is in
    let b = then_ok (solved case H) _ part a.2 in
    let x = outcome_ok (matrix case H) (right case H) b.0 (named_ok case (outcome (matrix case H) (right case H)) b.0 b.1) in
    let vs = voltages_of case b.0 in
    let c = then_ok (moved case H vs) _ part b.2 in
    let d = then_ok (switched case c.0) _ part c.2 in
    let made : part_at case H vs ≡ c.0 = same_ok (part_at case H vs) c.0 (unless_ok _ _ (Ok (part_at case H vs)) c.0 c.1).1 in
    let same : c.0 ≡ d.0 = same_ok c.0 d.0 (unless_ok _ _ (Ok c.0) d.0 d.1).1 in
    let last : d.0 ≡ part = same_ok d.0 part (unless_ok _ _ (Ok d.0) part d.2).1 in
    let all : part ≡ part_at case H vs = sym (made ∙ same ∙ last) in
    let branches : part.branches ≡ states_at case H vs = ap (λ (p : NetworkPart). p.branches) all ∙ part_branches case H vs in record {
      free = (unless_ok _ _ (Ok tt) a.0 a.1).0;
      voltages = ap (λ (p : NetworkPart). p.voltages) all ∙ part_voltages case H vs ∙ ap (voltages_of case) x;
      states = ap (λ (p : NetworkPart). p.switch_states) all ∙ part_states case H vs;
      branches = branches ∙ ap (λ y. states_at case H (voltages_of case y)) x;
      currents = ap (λ (p : NetworkPart). p.switch_currents) all ∙ part_currents case H vs ∙ ap (switch_currents_at case H) (sym branches);
    }

-- ---- a record that is made

-- its network's part is that of a step
pub record IsMadeOf (case : Parts) (H : List StepRecord) (r : StepRecord) : Type 0 where
  pub part : NetworkPart
  pub made : network_part case H ≡ Ok part
  pub is : network_of r ≡ part

by_control : (case : Parts) (part : NetworkPart) (q : Result ControlPart TacsFault) (r : StepRecord) → joined case part q ≡ Ok r → network_of r ≡ part
by_control case part (Ok control) r e = cc
by_control case part (Err fault) r e = absurd (cc)

made_of : (case : Parts) (H : List StepRecord) (r : StepRecord) (o : Result NetworkPart NetFault) → network_part case H ≡ o → with_control case H o ≡ Ok r → IsMadeOf case H r
made_of case H r (Ok part) is e = record { part = part; made = is; is = by_control case part (control_step case H (measured_of part)) r e }
made_of case H r (Err fault) is e = absurd (cc)

pub next_made : (case : Parts) (H : List StepRecord) (r : StepRecord) → next case H ≡ Ok r → IsMadeOf case H r
unfolding next
next_made case H r e = made_of case H r (network_part case H) refl e
