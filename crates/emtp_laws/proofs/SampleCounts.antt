-- How many samples a run has.
use Rattle.std.proofs.Common.{◌≡◌, ◌≢◌, ◌∙◌, ◌+◌, ◌-◌, ◌*◌, ◌/◌, ◌%◌, ◌<◌, ◌≤◌, ℕ, suc, List, [], ◌∷◌, length, None, ap, sym, inl, inr, arith}
use Rattle.std.proofs.Math.Nat.{div-add-mod, mul-mod_left, mul_comm, zero-div}
use Rattle.std.proofs.lemmas.Bool.{cases_eq, cases_lt}
use Rattle.std.proofs.lemmas.List.{length_push}
use Rattle.std.proofs.lemmas.Nat.{div-mul-add}
use Rattle.emtp_case.specs.held.Case.{IsCase}
use Rattle.emtp_case.specs.StepRecord.{StepRecord}
use Rattle.emtp_case.specs.declared.case.Parts.{Parts}
use Rattle.emtp_machine.proofs.Histories.{count, some_records}
use Rattle.emtp_machine.proofs.Sampling.{first, passed, taken}
use Rattle.emtp_machine.specs.Channels.{sample_of, samples_in}
use Rattle.emtp_machine.specs.History.{history, samples}
use Rattle.emtp_laws.specs.Runs.{steps_made}

-- ---- one more number divided

-- a number and the next one, by what is left of the first
record IsDivided (n every : ℕ) : Type 0 where
  whole : n ≡ n / every * every + n % every
  left : n % every < every

divided : (n every : ℕ) → 1 ≤ every → IsDivided n every
divided n every some =
    let parts : every * (n / every) + n % every ≡ n = div-add-mod n every in
    let turned : every * (n / every) ≡ n / every * every = mul_comm every (n / every) in
    record { whole = omega (arith, parts, turned); left = omega (arith, some) }

-- where the next number isn't a multiple, its quotient is the same
same_quotient : (n every : ℕ) → 1 ≤ every → (n + 1) % every ≢ 0 → (n + 1) / every ≡ n / every
same_quotient n every some due =
    let is = divided n every some in
    elim (cases_lt (n % every + 1) every) [
      | inl less ↦
          let next : n + 1 ≡ n / every * every + (n % every + 1) = omega (arith, is.whole) in
          ap (λ k. k / every) next ∙ div-mul-add (n / every) every (n % every + 1) less
      | inr full ↦
          let next : n + 1 ≡ suc (n / every) * every = omega (arith, is.whole, is.left, full, suc_times (n / every) every) in
          absurd (due (ap (λ k. k % every) next ∙ mul-mod_left (suc (n / every)) every))
    ]
  where
    suc_times : (a e : ℕ) → suc a * e ≡ a * e + e
    suc_times a e = omega arith

-- and where it is, its quotient is one more
next_quotient : (n every : ℕ) → 1 ≤ every → (n + 1) % every ≡ 0 → (n + 1) / every ≡ n / every + 1
next_quotient n every some due =
    let is = divided n every some in
    let after = divided (n + 1) every some in
    elim (cases_lt (n % every + 1) every) [
      | inl less ↦
          let next : n + 1 ≡ n / every * every + (n % every + 1) = omega (arith, is.whole) in
          let quotient : (n + 1) / every ≡ n / every = ap (λ k. k / every) next ∙ div-mul-add (n / every) every (n % every + 1) less in
          let product : (n + 1) / every * every ≡ n / every * every = ap (λ k. k * every) quotient in
          absurd (omega (arith, after.whole, due, product, is.whole))
      | inr full ↦
          let one : suc (n / every) ≡ n / every + 1 = omega arith in
          let next : n + 1 ≡ (n / every + 1) * every + 0 = omega (arith, is.whole, is.left, full, ap (λ k. k * every) one, suc_times (n / every) every) in
          ap (λ k. k / every) next ∙ div-mul-add (n / every + 1) every 0 (omega (arith, some))
    ]
  where
    suc_times : (a e : ℕ) → suc a * e ≡ a * e + e
    suc_times a e = omega arith

-- ---- samples

counted : (case : Parts) (r : StepRecord) (past : List StepRecord) → 1 ≤ case.run.every → length (samples_in case (r ∷ past)) ≡ length past / case.run.every + 1
counted case r [] some = ap length (first case r) ∙ sym (ap (λ k. k + 1) (zero-div case.run.every))
counted case r (q ∷ past) some =
    let every = case.run.every in
    let n = length past in
    let before = counted case q past some in
    let one : length (q ∷ past) ≡ n + 1 = omega arith in
    elim (cases_eq (length (q ∷ past) % every) 0) [
      | inl due ↦
          let here : (n + 1) % every ≡ 0 = ap (λ k. k % every) (sym one) ∙ due in
          let quotient : length (q ∷ past) / every ≡ n / every + 1 = ap (λ k. k / every) one ∙ next_quotient n every some here in
          omega (arith, ap length (taken case r (q ∷ past) due), length_push (samples_in case (q ∷ past)) (sample_of case r), before, quotient)
      | inr not_due ↦
          let here : (n + 1) % every ≢ 0 = λ e. not_due (ap (λ k. k % every) one ∙ e) in
          let quotient : length (q ∷ past) / every ≡ n / every = ap (λ k. k / every) one ∙ same_quotient n every some here in
          omega (arith, ap length (passed case r (q ∷ past) not_due), before, quotient)
    ]

by_records : (case : Parts) (H : List StepRecord) → 1 ≤ case.run.every → 1 ≤ length H → length (samples_in case H) ≡ (length H - 1) / case.run.every + 1
by_records case [] some there = absurd (omega (arith, there))
by_records case (r ∷ past) some there =
    let one : length (r ∷ past) - 1 ≡ length past = omega arith in
    counted case r past some ∙ sym (ap (λ k. k / case.run.every + 1) one)

pub samples_counted : (case : Parts) → IsCase case → length (samples case (history case)) ≡ steps_made case / case.run.every + 1
samples_counted case fits = by_records case (history case).records fits.draft.run.some_every (some_records case case.run.steps)

pub all_steps : (case : Parts) → (history case).end ≡ None → steps_made case ≡ case.run.steps
all_steps case none = omega (arith, count case case.run.steps none)
