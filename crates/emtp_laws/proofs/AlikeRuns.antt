-- A case with other sources and another number of steps has the same run as far as its steps are the same.
use Rattle.std.proofs.Common.{◌≡◌, ◌∙◌, ◌++◌, ◌+◌, ◌≤◌, ◌%◌, ◌==◌, ℕ, zero, suc, ℤ, if◌then◌else◌, List, [], ◌∷◌, length, Option, Some, None, Result, Ok, Err, refl, ap, arith}
use Rattle.emtp_case.specs.StepRecord.{StepRecord}
use Rattle.emtp_case.specs.declared.case.Parts.{Parts}
use Rattle.emtp_machine.proofs.Histories.{some_records}
use Rattle.emtp_machine.specs.Channels.{sample_of, samples_in}
use Rattle.emtp_machine.specs.History.{History, advanced, after_step, history_upto}
use Rattle.emtp_machine.specs.Next.{Fault, next}
use Rattle.emtp_machine.specs.declared.end.End.{End}
use Rattle.emtp_laws.proofs.AlikeRows.{Other, changed}

-- ---- how many records there are

few_after : (h : History) (n : ℕ) (made : Result StepRecord Fault) → length h.records ≤ n + 1 → length (after_step h made).records ≤ suc n + 1
few_after h n (Ok r) few = omega (arith, few)
few_after h n (Err fault) few = omega (arith, few)

few_advanced : (case : Parts) (h : History) (n : ℕ) (end : Option End) → length h.records ≤ n + 1 → length (advanced case h end).records ≤ suc n + 1
few_advanced case h n None few = few_after h n (next case h.records) few
few_advanced case h n (Some end) few = omega (arith, few)

few_records : (case : Parts) (n : ℕ) → length (history_upto case n).records ≤ n + 1
unfolding history_upto
few_records case zero = omega arith
few_records case (suc n) = few_advanced case (history_upto case n) n (history_upto case n).end (few_records case n)

-- ---- the records

-- the steps up to step n are the same
abbrev pub AreStepsAlike : Parts → Other → ℕ → Type 0
AreStepsAlike case o n = (H : List StepRecord) → 1 ≤ length H → length H ≤ n → next (changed o case) H ≡ next case H

advanced_same : (case : Parts) (o : Other) (h : History) (end : Option End) → next (changed o case) h.records ≡ next case h.records → advanced (changed o case) h end ≡ advanced case h end
advanced_same case o h None same = ap (after_step h) same
advanced_same case o h (Some end) same = refl

pub history_alike : (case : Parts) (o : Other) (n : ℕ) → AreStepsAlike case o n → (k : ℕ) → k ≤ n → history_upto (changed o case) k ≡ history_upto case k
unfolding history_upto
history_alike case o n alike zero low = refl
history_alike case o n alike (suc k) low =
    let below : k ≤ n = omega (arith, low) in
    let some = some_records case k in
    let few : length (history_upto case k).records ≤ n = omega (arith, few_records case k, low) in
    ap (λ (h : History). advanced (changed o case) h h.end) (history_alike case o n alike k below)
    ∙ advanced_same case o (history_upto case k) (history_upto case k).end (alike (history_upto case k).records some few)

-- ---- the samples

pub samples_alike : (case : Parts) (o : Other) (H : List StepRecord) → samples_in (changed o case) H ≡ samples_in case H
unfolding samples_in
samples_alike case o [] = refl
samples_alike case o (r ∷ past) = ap (λ (xs : List (List ℤ)). if length past % case.run.every == 0 then xs ++ sample_of case r ∷ [] else xs) (samples_alike case o past)
