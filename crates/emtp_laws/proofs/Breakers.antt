-- Breakers and idle switches in the steps and the records of a run.
use Rattle.std.proofs.Common.{◌≡◌, ◌∙◌, ℕ, List, [], ◌∷◌, length, slice_index_or, Ok, ap, sym, subst, inl, inr, arith}
use Rattle.std.proofs.lemmas.Bool.{cases_lt}
use Rattle.std.proofs.lemmas.List.{get_or_past}
use Rattle.std.proofs.lemmas.List.FromFn.{get_or-map-range_with_len, length-map-range_with_len}
use Rattle.emtp_case.specs.RowOrder.{order_of}
use Rattle.emtp_case.specs.StepRecord.{StepRecord, latest, rest_of, switch_state_at}
use Rattle.emtp_case.specs.declared.case.Parts.{Parts}
use Rattle.emtp_case.specs.declared.switch.SwitchState.TheVariants.{Opened, Waiting}
use Rattle.emtp_elim.specs.Matrix.{item}
use Rattle.emtp_machine.proofs.Chains.{chain}
use Rattle.emtp_machine.specs.Laws.{records_upto}
use Rattle.emtp_machine.specs.held.Laws.{IsChain}
use Rattle.emtp_machine.specs.Next.{next}
use Rattle.emtp_net.specs.Part.{NetworkPart, leaving_rows}
use Rattle.emtp_net.specs.held.Part.{network_of}
use Rattle.emtp_net.specs.Step.{network_part}
use Rattle.emtp_switch.specs.Currents.{contains}
use Rattle.emtp_switch.specs.Groups.{bridges_of, is_closed_at}
use Rattle.emtp_switch.specs.States.{next_state, next_states}
use Rattle.emtp_laws.specs.Switches.{AreIdleSwitchesDead, OpensBreakersRightly}
use Rattle.emtp_laws.proofs.ClosedSwitches.{zero_at}
use Rattle.emtp_laws.proofs.OpenSwitches.{open_none, opens_rightly, slack_none}
use Rattle.emtp_laws.proofs.SolvedSteps.{next_made, step_solved}

-- ---- breakers

-- the state of a switch in a record is that of its rule
state_is : (case : Parts) (H : List StepRecord) (r : StepRecord) (k : ℕ) → next case H ≡ Ok r → switch_state_at k r ≡ Opened → next_state case H k ≡ Opened
state_is case H r k is opened =
    let from = next_made case H r is in
    let states : r.switch_states ≡ next_states case H = ap (λ (p : NetworkPart). p.switch_states) from.is ∙ (step_solved case H from.part from.made).states in
    let here : slice_index_or (next_states case H) k Waiting ≡ Opened = ap (λ ss. slice_index_or ss k Waiting) (sym states) ∙ opened in
    elim (cases_lt k (length case.switches)) [
      | inl inside ↦ sym (get_or-map-range_with_len (next_state case H) 0 (length case.switches) k k Waiting inside (omega arith)) ∙ here
      | inr past ↦ absurd (waits (sym (get_or_past (next_states case H) k Waiting (omega (arith, past, length-map-range_with_len (next_state case H) 0 (length case.switches)))) ∙ here))
    ]
  where
    waits : Waiting ≡ Opened → ⊥
    waits e = cc

chain_opens : (case : Parts) (H : List StepRecord) → IsChain case H → OpensBreakersRightly case H
chain_opens case [] is = tt
chain_opens case (r ∷ []) is = tt
chain_opens case (r ∷ s ∷ past) is = λ k close open_at margin kind closed opened. opens_rightly case (s ∷ past) k close open_at margin kind closed (state_is case (s ∷ past) r k is.0 opened)

pub run_opens : (case : Parts) (n : ℕ) → OpensBreakersRightly case (records_upto case n)
run_opens case n = chain_opens case (records_upto case n) (chain case n)

-- ---- idle switches

pub idle_switches : (case : Parts) (H : List StepRecord) (part : NetworkPart) → network_part case H ≡ Ok part → AreIdleSwitchesDead case part.switch_states part.switch_currents
idle_switches case H part made =
    let is = step_solved case H part made in
    let leaving = leaving_rows case H part.branches in
    record {
      opened = λ s off. ap (λ xs. item xs s) is.currents ∙ open_none case.switches (order_of case) (next_states case H) leaving s (ap (λ ss. is_closed_at ss s) (sym is.states) ∙ off);
      slack = λ s out. ap (λ xs. item xs s) is.currents ∙ slack_none case.switches (order_of case) (next_states case H) leaving s (ap (λ ss. contains (bridges_of case.switches (order_of case) ss) s) (sym is.states) ∙ out);
    }

next_idle : (case : Parts) (H : List StepRecord) (r : StepRecord) → next case H ≡ Ok r → AreIdleSwitchesDead case r.switch_states r.switch_currents
next_idle case H r is =
    let from = next_made case H r is in
    let dead : AreIdleSwitchesDead case (network_of r).switch_states (network_of r).switch_currents = subst (λ (p : NetworkPart). AreIdleSwitchesDead case p.switch_states p.switch_currents) (sym from.is) (idle_switches case H from.part from.made) in
    dead

rest_idle : (case : Parts) → AreIdleSwitchesDead case (rest_of case).switch_states (rest_of case).switch_currents
rest_idle case = record { opened = λ s off. zero_at (length case.switches) s; slack = λ s out. zero_at (length case.switches) s }

latest_idle : (case : Parts) (H : List StepRecord) → IsChain case H → AreIdleSwitchesDead case (latest H).switch_states (latest H).switch_currents
latest_idle case [] is = absurd is
latest_idle case (r ∷ []) is = subst (λ (s : StepRecord). AreIdleSwitchesDead case s.switch_states s.switch_currents) (sym is) (rest_idle case)
latest_idle case (r ∷ s ∷ past) is = next_idle case (s ∷ past) r is.0

pub run_idle : (case : Parts) (n : ℕ) → AreIdleSwitchesDead case (latest (records_upto case n)).switch_states (latest (records_upto case n)).switch_currents
run_idle case n = latest_idle case (records_upto case n) (chain case n)
