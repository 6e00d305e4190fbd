-- Each sample is that of its record.
use Rattle.std.proofs.Common.{◌≡◌, ◌≢◌, ◌∙◌, sym, ap, inl, inr, ℕ, zero, suc, ◌+◌, ◌*◌, ◌%◌, ◌<◌, ◌≤◌, ℤ, List, [], ◌∷◌, ◌++◌, length, slice_index_or, Option, Some, None, Result, Ok, Err, refl, arith}
use Rattle.std.proofs.Math.ListN.{get_or-append}
use Rattle.std.proofs.lemmas.Bool.{cases_eq}
use Rattle.std.proofs.lemmas.List.{get_or_push, length_push}
use Rattle.emtp_case.specs.StepRecord.{StepRecord, latest, rest_of}
use Rattle.emtp_case.specs.declared.case.Parts.{Parts}
use Rattle.emtp_machine.proofs.Chains.{balanced}
use Rattle.emtp_machine.proofs.Histories.{IsMade, count, is_made}
use Rattle.emtp_machine.proofs.Sampling.{IsCount, count_passed, count_taken, due_at, first, passed, taken}
use Rattle.emtp_machine.specs.Channels.{sample_of, samples_in}
use Rattle.emtp_machine.specs.History.{History, advanced, after_step, history, history_upto, samples}
use Rattle.emtp_machine.specs.Laws.{IsSampleOf, SamplesBalance, records_upto}
use Rattle.emtp_machine.specs.Next.{Fault, next}
use Rattle.emtp_machine.specs.declared.end.End.{End}

-- the samples of the first records, each with the values of its record
pub record AreOf (case : Parts) (n : ℕ) (rows : List (List ℤ)) : Type 0 where
  pub counted : IsCount (length rows) n case.run.every
  pub each : (k : ℕ) → k < length rows → slice_index_or rows k [] ≡ sample_of case (latest (records_upto case (k * case.run.every)))

at_rest : (case : Parts) → 1 ≤ case.run.every → AreOf case 0 (samples_in case (rest_of case ∷ []))
unfolding history_upto
at_rest case some = rw first record {
  counted = record { most = omega arith; least = omega (arith, some) };
  each = λ k below.
      let none : k ≡ 0 = omega (arith, below) in
      let here : k * case.run.every ≡ 0 = ap (λ (j : ℕ). j * case.run.every) none ∙ omega arith in
      let last : records_upto case (k * case.run.every) ≡ rest_of case ∷ [] = ap (records_upto case) here in
      ap (λ (j : ℕ). slice_index_or (sample_of case (rest_of case) ∷ []) j []) none ∙ ap (λ (H : List StepRecord). sample_of case (latest H)) (sym last);
}

taken_too : (case : Parts) (n : ℕ) (r : StepRecord) (rows : List (List ℤ)) → 1 ≤ case.run.every → AreOf case n rows → (n + 1) % case.run.every ≡ 0 → records_upto case (suc n) ≡ r ∷ records_upto case n → AreOf case (n + 1) (rows ++ sample_of case r ∷ [])
taken_too case n r rows some are due is =
    let at = due_at (length rows) n case.run.every are.counted due some in
    let longer = length_push rows (sample_of case r) in
    record {
      counted = rw longer (count_taken (length rows) n case.run.every are.counted due some);
      each = λ k below. elim (cases_eq k (length rows)) [
        | inl same ↦
            let here : k * case.run.every ≡ suc n = ap (λ (j : ℕ). j * case.run.every) same ∙ at ∙ omega arith in
            let last = ap (records_upto case) here ∙ is in
            get_or_push rows (sample_of case r) [] k (sym same) ∙ ap (λ (H : List StepRecord). sample_of case (latest H)) (sym last)
        | inr ne ↦
            let inside : k < length rows = omega (arith, longer, below, ne) in
            get_or-append rows (sample_of case r ∷ []) [] k inside ∙ are.each k inside
      ];
    }

passed_too : (case : Parts) (n : ℕ) (rows : List (List ℤ)) → AreOf case n rows → (n + 1) % case.run.every ≢ 0 → AreOf case (n + 1) rows
passed_too case n rows are due = record { counted = count_passed (length rows) n case.run.every are.counted due; each = are.each }

one_more : (case : Parts) (n : ℕ) (r : StepRecord) → 1 ≤ case.run.every → AreOf case n (samples_in case (records_upto case n)) → length (records_upto case n) ≡ n + 1 → records_upto case (suc n) ≡ r ∷ records_upto case n → AreOf case (n + 1) (samples_in case (r ∷ records_upto case n))
one_more case n r some are counted is = elim (cases_eq ((n + 1) % case.run.every) 0) [
  | inl due ↦
      let here = taken case r (records_upto case n) (ap (λ (k : ℕ). k % case.run.every) counted ∙ due) in
      rw here (taken_too case n r (samples_in case (records_upto case n)) some are due is)
  | inr due ↦
      let here = passed case r (records_upto case n) (λ none. due (ap (λ (k : ℕ). k % case.run.every) (sym counted) ∙ none)) in
      rw here (passed_too case n (samples_in case (records_upto case n)) are due)
]

-- as long as a run goes on
pub running : (case : Parts) → 1 ≤ case.run.every → (n : ℕ) → (history_upto case n).end ≡ None → AreOf case n (samples_in case (records_upto case n))
unfolding history_upto
running case some zero none = at_rest case some
running case some (suc n) none =
    let made : IsMade case (history_upto case n) (history_upto case (suc n)) = is_made case n none in
    let more = one_more case n made.r some (running case some n made.running) (count case n made.running) made.records_are in
    let next : n + 1 ≡ suc n = omega arith in
    let here = rw (next, ← made.records_are) at more in
    here

-- ---- after an end

-- the records are those of a run that goes on
pub record IsUpTo (case : Parts) (H : List StepRecord) : Type 0 where
  pub m : ℕ
  pub none : (history_upto case m).end ≡ None
  pub same : H ≡ records_upto case m

last_after : (case : Parts) (n : ℕ) (made : Result StepRecord Fault) → (history_upto case n).end ≡ None → history_upto case (suc n) ≡ after_step (history_upto case n) made → IsUpTo case (after_step (history_upto case n) made).records
last_after case n (Ok r) none is = record { m = suc n; none = ap (λ (h : History). h.end) is ∙ none; same = ap (λ (h : History). h.records) (sym is) }
last_after case n (Err fault) none is = record { m = n; none = none; same = refl }

last_advanced : (case : Parts) (n : ℕ) (end : Option End) → (history_upto case n).end ≡ end → history_upto case (suc n) ≡ advanced case (history_upto case n) end → IsUpTo case (records_upto case n) → IsUpTo case (advanced case (history_upto case n) end).records
last_advanced case n None is step before = last_after case n (next case (records_upto case n)) is step
last_advanced case n (Some end) is step before = before

pub last : (case : Parts) (n : ℕ) → IsUpTo case (records_upto case n)
unfolding history_upto
last case zero = record { m = 0; none = refl; same = refl }
last case (suc n) = last_advanced case n (history_upto case n).end refl refl (last case n)

sample_of_record : (case : Parts) → 1 ≤ case.run.every → (k : ℕ) → k < length (samples case (history case)) → IsSampleOf case (samples case (history case)) k
sample_of_record case some k below =
    let last = last case case.run.steps in
    let are = running case some last.m last.none in
    let rows = ap (samples_in case) last.same in
    record {
      values = ap (λ (xs : List (List ℤ)). slice_index_or xs k []) rows ∙ are.each k (rw rows at below);
      balanced = balanced case (k * case.run.every);
    }

pub are_of : (case : Parts) → 1 ≤ case.run.every → SamplesBalance case
are_of case some = record { each = sample_of_record case some }
