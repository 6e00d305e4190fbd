-- A history, step by step.
use Rattle.std.proofs.Common.{◌≡◌, ◌∙◌, ap, ℕ, zero, suc, ◌+◌, ◌≤◌, ◌∷◌, length, Option, Some, None, Result, Ok, Err, refl, arith}
use Rattle.emtp_case.specs.StepRecord.{StepRecord}
use Rattle.emtp_case.specs.declared.case.Parts.{Parts}
use Rattle.emtp_machine.specs.History.{History, advanced, after_step, end_at, history_upto}
use Rattle.emtp_machine.specs.Next.{Fault, next}
use Rattle.emtp_machine.specs.declared.end.End.{End}

further : (case : Parts) (n : ℕ) → (history_upto case n).end ≡ None → history_upto case (suc n) ≡ after_step (history_upto case n) (next case (history_upto case n).records)
unfolding history_upto
further case n running = ap (advanced case (history_upto case n)) running

-- a step that is made puts its record in front
pub made : (case : Parts) (n : ℕ) (r : StepRecord) → (history_upto case n).end ≡ None → next case (history_upto case n).records ≡ Ok r
    → history_upto case (suc n) ≡ record (history_upto case n) { records = r ∷ (history_upto case n).records }
made case n r running stepped = further case n running ∙ ap (after_step (history_upto case n)) stepped

-- a step that isn't made ends the history
pub ended : (case : Parts) (n : ℕ) (fault : Fault) → (history_upto case n).end ≡ None → next case (history_upto case n).records ≡ Err fault
    → history_upto case (suc n) ≡ record (history_upto case n) { end = Some (end_at (length (history_upto case n).records) fault) }
ended case n fault running stopped = further case n running ∙ ap (after_step (history_upto case n)) stopped

-- after its end a history stays
stays_by : (case : Parts) (n : ℕ) (end : End) → (history_upto case n).end ≡ Some end → history_upto case (suc n) ≡ history_upto case n
unfolding history_upto
stays_by case n end over = ap (advanced case (history_upto case n)) over

pub stays : (case : Parts) (n k m : ℕ) (end : End) → m ≡ k + n → (history_upto case n).end ≡ Some end → history_upto case m ≡ history_upto case n
stays case n zero m end is over = let none : m ≡ n = omega (arith, is) in ap (history_upto case) none
stays case n (suc k) m end is over =
    let one : m ≡ suc (k + n) = omega (arith, is) in
    let before = stays case n k (k + n) end refl over in
    ap (history_upto case) one ∙ stays_by case (k + n) end (ap (λ (h : History). h.end) before ∙ over) ∙ before

-- ---- how many records there are

some_after : (h : History) (made : Result StepRecord Fault) → 1 ≤ length h.records → 1 ≤ length (after_step h made).records
some_after h (Ok r) some = omega arith
some_after h (Err fault) some = some

some_advanced : (case : Parts) (h : History) (end : Option End) → 1 ≤ length h.records → 1 ≤ length (advanced case h end).records
some_advanced case h None some = some_after h (next case h.records) some
some_advanced case h (Some end) some = some

-- a history has rest at least
pub some_records : (case : Parts) (n : ℕ) → 1 ≤ length (history_upto case n).records
unfolding history_upto
some_records case zero = omega arith
some_records case (suc n) = some_advanced case (history_upto case n) (history_upto case n).end (some_records case n)

-- a step that leaves no end had none before it, and put its record in front
pub record IsMade (case : Parts) (h k : History) : Type 0 where
  pub r : StepRecord
  pub running : h.end ≡ None
  pub next_is : next case h.records ≡ Ok r
  pub records_are : k.records ≡ r ∷ h.records

made_after : (case : Parts) (h : History) (made : Result StepRecord Fault) → h.end ≡ None → next case h.records ≡ made → (after_step h made).end ≡ None → IsMade case h (after_step h made)
made_after case h (Ok r) running is none = record { r = r; running = running; next_is = is; records_are = refl }
made_after case h (Err fault) running is none = absurd (cc)

made_advanced : (case : Parts) (h : History) (end : Option End) → h.end ≡ end → (advanced case h end).end ≡ None → IsMade case h (advanced case h end)
made_advanced case h None is none = made_after case h (next case h.records) is refl none
made_advanced case h (Some end) is none = absurd (cc)

pub is_made : (case : Parts) (n : ℕ) → (history_upto case (suc n)).end ≡ None → IsMade case (history_upto case n) (history_upto case (suc n))
unfolding history_upto
is_made case n none = made_advanced case (history_upto case n) (history_upto case n).end refl none

-- without an end each step has its record
pub count : (case : Parts) (n : ℕ) → (history_upto case n).end ≡ None → length (history_upto case n).records ≡ n + 1
unfolding history_upto
count case zero none = refl
count case (suc n) none =
    let made = is_made case n none in
    let before = count case n made.running in
    let longer = ap length made.records_are in
    omega (arith, before, longer)
