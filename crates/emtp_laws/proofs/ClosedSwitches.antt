-- A closed switch has no voltage across it, in each step and in each record of a run.
use Rattle.std.proofs.Common.{◌≡◌, ◌∙◌, ◌+◌, ◌<◌, ℕ, zero, suc, pos, Bool, true, List, [], ◌∷◌, length, replicate, slice_index, IfOk, Result, Ok, Err, refl, ap, sym, subst, inl, inr, arith}
use Rattle.std.specs.List.{AllByRecursion as Each, filter, range_with_len}
use Rattle.std.proofs.lemmas.Bool.{cases_Bool, cond-false, cond-true}
use Rattle.std.proofs.lemmas.List.FromFn.{get_or-range_with_len, length-map-range_with_len, length-range_with_len}
use Rattle.emtp_case.proofs.NodeOrder.{length-order_of}
use Rattle.emtp_case.specs.held.Case.{IsCase}
use Rattle.emtp_case.specs.RowOrder.{order_of}
use Rattle.emtp_case.specs.StepRecord.{StepRecord, latest, rest_of}
use Rattle.emtp_case.specs.declared.case.Parts.{Parts}
use Rattle.emtp_case.specs.declared.switch.SwitchState.{SwitchState}
use Rattle.emtp_elim.specs.Elimination.{solution}
use Rattle.emtp_elim.specs.Matrix.{item}
use Rattle.emtp_machine.proofs.Chains.{chain}
use Rattle.emtp_machine.specs.Laws.{records_upto}
use Rattle.emtp_machine.specs.held.Laws.{IsChain}
use Rattle.emtp_machine.specs.Next.{next}
use Rattle.emtp_net.specs.Part.{NetworkPart}
use Rattle.emtp_net.specs.held.Part.{network_of}
use Rattle.emtp_net.specs.Step.{network_part}
use Rattle.emtp_net.specs.System.{matrix, right}
use Rattle.emtp_net.specs.declared.fault.NetFault.{NetFault}
use Rattle.emtp_switch.proofs.Labels.{OneLabel, groups-joins}
use Rattle.emtp_switch.proofs.Plans.{switch_ends}
use Rattle.emtp_switch.specs.Groups.{alone, closed_switches, from_at, is_closed_at, to_at}
use Rattle.emtp_switch.specs.held.Groups.{EndWithin}
use Rattle.emtp_switch.specs.States.{next_state, next_states}
use Rattle.emtp_laws.specs.Nodes.{IsGroundKept, JoinEnds, KeepsGround, labels_next}
use Rattle.emtp_laws.proofs.GroupVoltages.{one_voltage, voltage_ground}
use Rattle.emtp_laws.proofs.SolvedSteps.{next_made, step_solved}

-- ---- closed switches

-- what holds of each of a list that is left holds of one that passes
of_passing : (test : ℕ → Bool) (P : ℕ → Type 0) (xs : List ℕ) (k s : ℕ) → k < length xs → slice_index xs k ≡ s → test s ≡ true → Each P (filter test xs) → P s
of_passing test P [] k s inside at on each = absurd (omega (arith, inside))
of_passing test P (x ∷ xs) zero s inside at on each =
    let here : test x ≡ true = ap test at ∙ on in
    let both = subst (λ ys. Each P ys) (cond-true (test x) (x ∷ filter test xs) (filter test xs) here) each in
    subst P at both.0
of_passing test P (x ∷ xs) (suc k) s inside at on each = elim (cases_Bool (test x)) [
  | inl here ↦
      let both = subst (λ ys. Each P ys) (cond-true (test x) (x ∷ filter test xs) (filter test xs) here) each in
      of_passing test P xs k s (omega (arith, inside)) at on both.1
  | inr off ↦ of_passing test P xs k s (omega (arith, inside)) at on (subst (λ ys. Each P ys) (cond-false (test x) (x ∷ filter test xs) (filter test xs) off) each)
]

one_label : (case : Parts) (H : List StepRecord) (s : ℕ) → IsCase case → s < length case.switches → is_closed_at (next_states case H) s ≡ true
    → slice_index (labels_next case H) (from_at case.switches s) ≡ slice_index (labels_next case H) (to_at case.switches s)
one_label case H s fits inside closed =
    let n = length-order_of case in
    let start = alone (length (order_of case).nodes) in
    let long : length start ≡ length case.nodes + 1 = omega (arith, n, length-range_with_len 0 (length (order_of case).nodes + 1)) in
    let ends : EndWithin case.switches (length start) = subst (EndWithin case.switches) (sym long) (switch_ends case fits) in
    let states = next_states case H in
    let count : length states ≡ length case.switches = length-map-range_with_len (next_state case H) 0 (length case.switches) in
    let below : s < length states = omega (arith, inside, count) in
    of_passing (is_closed_at states) (OneLabel case.switches (labels_next case H)) (range_with_len 0 (length states)) s s
    (omega (arith, below, length-range_with_len 0 (length states)))
    (get_or-range_with_len 0 (length states) s 0 below ∙ (omega arith))
    closed
    (groups-joins case.switches start (closed_switches states) ends)

pub ends_joined : (case : Parts) (H : List StepRecord) (part : NetworkPart) → IsCase case → network_part case H ≡ Ok part → JoinEnds case part.switch_states part.voltages
ends_joined case H part fits made = λ s inside closed.
    let is = step_solved case H part made in
    let on : is_closed_at (next_states case H) s ≡ true = ap (λ (ss : List SwitchState). is_closed_at ss s) (sym is.states) ∙ closed in
    let ends = switch_ends case fits in
    let low = ends.from_there s in
    let high = ends.to_there s in
    ap (λ vs. item vs (from_at case.switches s)) is.voltages
    ∙ one_voltage case H (from_at case.switches s) (to_at case.switches s) (omega (arith, low)) (omega (arith, high)) (one_label case H s fits inside on)
    ∙ sym (ap (λ vs. item vs (to_at case.switches s)) is.voltages)

-- ---- the records of a run

pub zero_at : (n k : ℕ) → item (replicate n (pos 0)) k ≡ pos 0
zero_at zero k = refl
zero_at (suc n) zero = refl
zero_at (suc n) (suc k) = zero_at n k

rest_joined : (case : Parts) → JoinEnds case (rest_of case).switch_states (rest_of case).voltages
rest_joined case = λ s inside closed. zero_at (length case.nodes + 1) (from_at case.switches s) ∙ sym (zero_at (length case.nodes + 1) (to_at case.switches s))

next_joined : (case : Parts) (H : List StepRecord) (r : StepRecord) → IsCase case → next case H ≡ Ok r → JoinEnds case r.switch_states r.voltages
next_joined case H r fits is =
    let from = next_made case H r is in
    let joins : JoinEnds case (network_of r).switch_states (network_of r).voltages = subst (λ (p : NetworkPart). JoinEnds case p.switch_states p.voltages) (sym from.is) (ends_joined case H from.part fits from.made) in
    joins

latest_joined : (case : Parts) (H : List StepRecord) → IsCase case → IsChain case H → JoinEnds case (latest H).switch_states (latest H).voltages
latest_joined case [] fits is = absurd is
latest_joined case (r ∷ []) fits is = subst (λ (s : StepRecord). JoinEnds case s.switch_states s.voltages) (sym is) (rest_joined case)
latest_joined case (r ∷ s ∷ past) fits is = next_joined case (s ∷ past) r fits is.0

pub run_joined : (case : Parts) (n : ℕ) → IsCase case → JoinEnds case (latest (records_upto case n)).switch_states (latest (records_upto case n)).voltages
run_joined case n fits = latest_joined case (records_upto case n) fits (chain case n)

-- ---- ground

ground_kept : (case : Parts) (H : List StepRecord) (part : NetworkPart) → network_part case H ≡ Ok part → KeepsGround case H part.voltages
ground_kept case H part made = λ n high same.
    let is = step_solved case H part made in
    ap (λ vs. item vs n) is.voltages ∙ one_voltage case H n 0 high (omega arith) same ∙ voltage_ground case (solution (matrix case H) (right case H))

pub step_grounded : (case : Parts) (H : List StepRecord) → IfOk (network_part case H) (λ part. KeepsGround case H part.voltages)
step_grounded case H = by (network_part case H) refl
  where
    by : (made : Result NetworkPart NetFault) → network_part case H ≡ made → IfOk made (λ part. KeepsGround case H part.voltages)
    by (Ok part) is = ground_kept case H part is
    by (Err fault) is = tt

next_grounded : (case : Parts) (H : List StepRecord) (r : StepRecord) → next case H ≡ Ok r → KeepsGround case H r.voltages
next_grounded case H r is =
    let from = next_made case H r is in
    let keeps : KeepsGround case H (network_of r).voltages = subst (λ (p : NetworkPart). KeepsGround case H p.voltages) (sym from.is) (ground_kept case H from.part from.made) in
    keeps

all_grounded : (case : Parts) (H : List StepRecord) → IsChain case H → IsGroundKept case H
all_grounded case [] is = tt
all_grounded case (r ∷ []) is = tt
all_grounded case (r ∷ s ∷ past) is = next_grounded case (s ∷ past) r is.0

pub run_grounded : (case : Parts) (n : ℕ) → IsGroundKept case (records_upto case n)
run_grounded case n = all_grounded case (records_upto case n) (chain case n)
