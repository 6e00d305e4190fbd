-- The records of a run, each after those before it.
use Rattle.std.proofs.Common.{◌≡◌, ℕ, zero, suc, ◌<◌, ◌≤◌, List, [], ◌∷◌, length, Option, Some, None, IfSome, Result, Ok, Err, unsigned_abs, refl, arith}
use Rattle.emtp_case.specs.StepRecord.{StepRecord}
use Rattle.emtp_case.specs.declared.case.Parts.{Parts}
use Rattle.emtp_net.proofs.Runs.{residual_small}
use Rattle.emtp_net.specs.Part.{NetworkPart}
use Rattle.emtp_net.specs.Residual.{residual_of}
use Rattle.emtp_net.specs.Step.{network_part}
use Rattle.emtp_net.specs.declared.fault.NetFault.{NetFault}
use Rattle.emtp_machine.specs.History.{History, advanced, after_step, history_upto}
use Rattle.emtp_machine.specs.Laws.{IsBalanced, records_upto}
use Rattle.emtp_machine.specs.held.Laws.{IsChain, IsRefusal}
use Rattle.emtp_machine.specs.Next.{Fault, joined, measured_of, next, with_control}
use Rattle.emtp_machine.specs.declared.end.End.{End}
use Rattle.emtp_tacs.specs.Part.{ControlPart}
use Rattle.emtp_tacs.specs.Step.{control_step}
use Rattle.emtp_tacs.specs.declared.fault.TacsFault.{TacsFault}

chain_more : (case : Parts) (H : List StepRecord) (r : StepRecord) → IsChain case H → next case H ≡ Ok r → IsChain case (r ∷ H)
chain_more case [] r chain is = absurd chain
chain_more case (s ∷ past) r chain is = (is, chain)

chain_after : (case : Parts) (h : History) (made : Result StepRecord Fault) → next case h.records ≡ made → IsChain case h.records → IsChain case (after_step h made).records
chain_after case h (Ok r) is chain = chain_more case h.records r chain is
chain_after case h (Err fault) is chain = chain

chain_advanced : (case : Parts) (h : History) (end : Option End) → IsChain case h.records → IsChain case (advanced case h end).records
chain_advanced case h None chain = chain_after case h (next case h.records) refl chain
chain_advanced case h (Some end) chain = chain

pub chain : (case : Parts) (n : ℕ) → IsChain case (records_upto case n)
unfolding history_upto
chain case zero = refl
chain case (suc n) = chain_advanced case (history_upto case n) (history_upto case n).end (chain case n)

-- ---- the end

-- the end of a history is that of the step after its records
abbrev pub EndsWell : Parts → History → Type 0
EndsWell case h = IfSome h.end (IsRefusal case h.records)

ends_after : (case : Parts) (h : History) (made : Result StepRecord Fault) → next case h.records ≡ made → h.end ≡ None → EndsWell case (after_step h made)
ends_after case h (Ok r) is none = rw none tt
ends_after case h (Err fault) is none = record { fault = fault; refused = is; is = refl }

ends_advanced : (case : Parts) (h : History) (end : Option End) → h.end ≡ end → EndsWell case h → EndsWell case (advanced case h end)
ends_advanced case h None is well = ends_after case h (next case h.records) refl is
ends_advanced case h (Some end) is well = well

pub ends_well : (case : Parts) (n : ℕ) → EndsWell case (history_upto case n)
unfolding history_upto
ends_well case zero = tt
ends_well case (suc n) = ends_advanced case (history_upto case n) (history_upto case n).end refl (ends_well case n)

-- ---- residuals

joined_branches : (case : Parts) (part : NetworkPart) (q : Result ControlPart TacsFault) (r : StepRecord) → joined case part q ≡ Ok r → part.branches ≡ r.branches
joined_branches case part (Ok control) r is = cc
joined_branches case part (Err fault) r is = absurd (cc)

balanced_by : (case : Parts) (H : List StepRecord) (r : StepRecord) (p : Result NetworkPart NetFault) → network_part case H ≡ p → with_control case H p ≡ Ok r → (row : ℕ) → row < length case.nodes → residual_of case H r.branches row ≤ unsigned_abs case.run.tolerance
balanced_by case H r (Ok part) is made row below =
    let same = joined_branches case part (control_step case H (measured_of part)) r made in
    rw (← same) (residual_small case H part is row below)
balanced_by case H r (Err fault) is made row below = absurd (cc)

balanced_next : (case : Parts) (H : List StepRecord) (r : StepRecord) → next case H ≡ Ok r → (row : ℕ) → row < length case.nodes → residual_of case H r.branches row ≤ unsigned_abs case.run.tolerance
unfolding next
balanced_next case H r made row below = balanced_by case H r (network_part case H) refl made row below

balanced_more : (case : Parts) (H : List StepRecord) (r : StepRecord) → IsChain case H → next case H ≡ Ok r → IsBalanced case (r ∷ H)
balanced_more case [] r chain is row below = absurd chain
balanced_more case (s ∷ past) r chain is row below = balanced_next case (s ∷ past) r is row below

balanced_chain : (case : Parts) (H : List StepRecord) → IsChain case H → IsBalanced case H
balanced_chain case [] chain row below = absurd chain
balanced_chain case (r ∷ []) chain row below = omega arith
balanced_chain case (r ∷ s ∷ past) chain row below = balanced_more case (s ∷ past) r chain.1 chain.0 row below

pub balanced : (case : Parts) (n : ℕ) → IsBalanced case (records_upto case n)
balanced case n = balanced_chain case (records_upto case n) (chain case n)
