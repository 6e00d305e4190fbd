-- How the run of a machine goes on by a step.
use Rattle.std.proofs.Common.{◌≡◌, ◌≢◌, ◌∙◌, ◌+◌, ◌-◌, ◌<◌, [], ◌∷◌, ap, sym, refl, arith, suc, ℕ, Bool, true, false, length, is_none, is_ok, IsTrue, Option, Some, None, Result, Ok, Err}
use Rattle.std.specs.Bool.{OnFalse, OnTrue}
use Rattle.emtp_case.specs.StepRecord.{StepRecord, rest_of}
use Rattle.emtp_case.specs.declared.case.Parts.{Parts}
use Rattle.emtp_machine.proofs.Histories.{is_made, stays}
use Rattle.emtp_machine.proofs.Machines.{rest_history}
use Rattle.emtp_machine.specs.History.{History, advanced, after_step, history, history_upto}
use Rattle.emtp_machine.specs.Next.{Fault, next}
use Rattle.emtp_machine.specs.declared.end.End.{End}
use Rattle.emtp_machine.specs.held.Machine.{Progress, answer_of, history_of}
use Rattle.emtp_worth.specs.held.Run.{IsNext}

-- a step that ends a history leaves its records
ended_after : (h : History) (made : Result StepRecord Fault) → h.end ≡ None → (after_step h made).end ≢ None → (after_step h made).records ≡ h.records
ended_after h (Ok r) running ends = absurd (ends running)
ended_after h (Err fault) running ends = refl

ended_advanced : (case : Parts) (h : History) (end : Option End) → h.end ≡ end → end ≡ None → (advanced case h end).end ≢ None → (advanced case h end).records ≡ h.records
ended_advanced case h None is running ends = ended_after h (next case h.records) is ends
ended_advanced case h (Some end) is running ends = absurd (cc)

is_ended : (case : Parts) (n : ℕ) → (history_upto case n).end ≡ None → (history_upto case (suc n)).end ≢ None → (history_upto case (suc n)).records ≡ (history_upto case n).records
unfolding history_upto
is_ended case n running ends = ended_advanced case (history_upto case n) (history_upto case n).end refl running ends

-- the history after a step
after : (m p : Progress) → p.case ≡ m.case → p.tried ≡ m.tried + 1 → history_of p ≡ history_upto m.case (suc m.tried)
after m p same further =
    let one : p.tried ≡ suc m.tried = omega (arith, further) in
    ap (λ (c : Parts). history_upto c p.tried) same ∙ ap (history_upto m.case) one

-- a step without an end has a record more
pub goes_on : (m p : Progress) → p.case ≡ m.case → p.tried ≡ m.tried + 1 → (history_of p).end ≡ None → IsNext (history_of m).records (history_of p).records
goes_on m p same further none =
    let is = after m p same further in
    let made = is_made m.case m.tried (sym (ap (λ (h : History). h.end) is) ∙ none) in
    record { last = made.r; is = ap (λ (h : History). h.records) is ∙ made.records_are }

-- before the step that ends it a run has all its records
pub is_whole : (m p : Progress) → p.case ≡ m.case → p.tried ≡ m.tried + 1 → m.tried < m.case.run.steps → (history_of m).end ≡ None → (history_of p).end ≢ None
    → (history_of m).records ≡ (history m.case).records
is_whole m p same further left running ends = by (history_upto m.case (suc m.tried)).end refl (λ none. ends (ap (λ (h : History). h.end) (after m p same further) ∙ none))
  where
    by : (end : Option End) → (history_upto m.case (suc m.tried)).end ≡ end → end ≢ None → (history_of m).records ≡ (history m.case).records
    by None is some = absurd (some refl)
    by (Some end) is some =
        let over : (history_upto m.case (suc m.tried)).end ≢ None = λ none. some (sym is ∙ none) in
        sym (is_ended m.case m.tried running over)
        ∙ sym (ap (λ (h : History). h.records) (stays m.case (suc m.tried) (m.case.run.steps - suc m.tried) m.case.run.steps end (omega (arith, left)) is))

-- ---- by the answer of a step

none_answered : (end : Option End) → true ≡ is_ok (answer_of end) → end ≡ None
none_answered None is = refl
none_answered (Some end) is = absurd (cc)

some_answered : (end : Option End) → false ≡ is_ok (answer_of end) → end ≢ None
some_answered None is = absurd (cc)
some_answered (Some end) is = λ none. absurd (cc)

pub on_made : (made : Bool) (m p : Progress) (result : Result (Unit {0}) End) → made ≡ is_ok result → result ≡ answer_of (history_of p).end → p.case ≡ m.case → p.tried ≡ m.tried + 1
    → OnTrue made (IsNext (history_of m).records (history_of p).records)
on_made false m p result is answered same further = tt
on_made true m p result is answered same further = goes_on m p same further (none_answered (history_of p).end (is ∙ ap is_ok answered))

pub on_ended : (made : Bool) (m p : Progress) (result : Result (Unit {0}) End) → made ≡ is_ok result → result ≡ answer_of (history_of p).end → p.case ≡ m.case → p.tried ≡ m.tried + 1
    → m.tried < m.case.run.steps → (history_of m).end ≡ None → OnFalse made ((history_of m).records ≡ (history m.case).records)
on_ended true m p result is answered same further left running = tt
on_ended false m p result is answered same further left running =
    is_whole m p same further left running (some_answered (history_of p).end (is ∙ ap is_ok answered))

-- ---- at rest

at_rest : (m : Progress) → m.tried ≡ 0 → history_of m ≡ record { records = rest_of m.case ∷ []; end = None }
at_rest m rest = ap (history_upto m.case) rest ∙ rest_history m.case

-- a machine that made no step can be read
pub rest_live : (m : Progress) → m.tried ≡ 0 → IsTrue (is_none (history_of m).end)
rest_live m rest = ap (λ (h : History). is_none h.end) (at_rest m rest)

pub rest_count : (m : Progress) → m.tried ≡ 0 → length (history_of m).records ≡ 1
rest_count m rest = ap (λ (h : History). length h.records) (at_rest m rest)
