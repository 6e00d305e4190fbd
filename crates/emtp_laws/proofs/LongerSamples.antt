-- The samples of a longer run begin with those of a shorter one.
use Rattle.std.proofs.Common.{◌≡◌, ◌∙◌, ◌++◌, ◌+◌, ◌-◌, ◌≤◌, ◌%◌, ◌==◌, ℕ, zero, suc, ℤ, if◌then◌else◌, Bool, true, false, List, [], ◌∷◌, length, take, Option, Some, None, Result, Ok, Err, refl, ap, sym, subst, arith}
use Rattle.std.proofs.lemmas.List.{append-nil, append_assoc}
use Rattle.emtp_case.specs.StepRecord.{StepRecord}
use Rattle.emtp_case.specs.declared.case.Parts.{Parts}
use Rattle.emtp_machine.specs.Channels.{sample_of, samples_in}
use Rattle.emtp_machine.specs.History.{History, advanced, after_step, history, history_upto, samples}
use Rattle.emtp_machine.specs.Next.{Fault, next}
use Rattle.emtp_machine.specs.declared.end.End.{End}
use Rattle.emtp_laws.specs.Runs.{BeginsWith, with_steps}
use Rattle.emtp_laws.proofs.AlikeRuns.{samples_alike}
use Rattle.emtp_laws.proofs.LongerRuns.{history_same, same_sources}

pub record GoesOn (xs ys : List (List ℤ)) : Type 0 where
  pub more : List (List ℤ)
  pub is : ys ≡ xs ++ more

by_test : (b : Bool) (xs : List (List ℤ)) (y : List ℤ) → GoesOn xs (if b then xs ++ y ∷ [] else xs)
by_test true xs y = record { more = y ∷ []; is = refl }
by_test false xs y = record { more = []; is = sym (append-nil xs) }

one_more : (case : Parts) (r : StepRecord) (past : List StepRecord) → GoesOn (samples_in case past) (samples_in case (r ∷ past))
unfolding samples_in
one_more case r past = by_test (length past % case.run.every == 0) (samples_in case past) (sample_of case r)

same : (xs : List (List ℤ)) → GoesOn xs xs
same xs = record { more = []; is = sym (append-nil xs) }

both : (xs ys zs : List (List ℤ)) → GoesOn xs ys → GoesOn ys zs → GoesOn xs zs
both xs ys zs a b = record { more = a.more ++ b.more; is = b.is ∙ ap (λ ws. ws ++ b.more) a.is ∙ append_assoc xs a.more b.more }

after : (case : Parts) (h : History) (made : Result StepRecord Fault) → GoesOn (samples case h) (samples case (after_step h made))
after case h (Ok r) = one_more case r h.records
after case h (Err fault) = same (samples case h)

advances : (case : Parts) (h : History) (end : Option End) → GoesOn (samples case h) (samples case (advanced case h end))
advances case h None = after case h (next case h.records)
advances case h (Some end) = same (samples case h)

one_step : (case : Parts) (n : ℕ) → GoesOn (samples case (history_upto case n)) (samples case (history_upto case (suc n)))
unfolding history_upto
one_step case n = advances case (history_upto case n) (history_upto case n).end

pub steps : (case : Parts) (k n m : ℕ) → m ≡ k + n → GoesOn (samples case (history_upto case n)) (samples case (history_upto case m))
steps case zero n m e =
    let none : n ≡ m = omega (arith, e) in
    subst (λ j. GoesOn (samples case (history_upto case n)) (samples case (history_upto case j))) none (same (samples case (history_upto case n)))
steps case (suc k) n m e =
    let one : suc (k + n) ≡ m = omega (arith, e) in
    subst (λ j. GoesOn (samples case (history_upto case n)) (samples case (history_upto case j))) one
    (both (samples case (history_upto case n)) (samples case (history_upto case (k + n))) (samples case (history_upto case (suc (k + n)))) (steps case k n (k + n) refl) (one_step case (k + n)))

pub begins : (xs more : List (List ℤ)) → take (length xs) (xs ++ more) ≡ xs
begins [] more = refl
begins (x ∷ xs) more = ap (λ ys. x ∷ ys) (begins xs more)

-- the samples of a case with another number of steps
of_steps : (case : Parts) (m : ℕ) → samples (with_steps m case) (history (with_steps m case)) ≡ samples case (history_upto case m)
of_steps case m = ap (λ (h : History). samples (with_steps m case) h) (history_same case m m) ∙ samples_alike case (same_sources case m) (history_upto case m).records

pub samples_begin : (case : Parts) (fewer more : ℕ) → fewer ≤ more → BeginsWith (samples (with_steps more case) (history (with_steps more case))) (samples (with_steps fewer case) (history (with_steps fewer case)))
samples_begin case fewer more low =
    let on = steps case (more - fewer) fewer more (omega (arith, low)) in
    let short = of_steps case fewer in
    let long = of_steps case more in
    ap (λ (xs : List (List ℤ)). take (length xs) (samples (with_steps more case) (history (with_steps more case)))) short
    ∙ ap (take (length (samples case (history_upto case fewer)))) (long ∙ on.is)
    ∙ begins (samples case (history_upto case fewer)) on.more
    ∙ sym short
