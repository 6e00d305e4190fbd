-- The rows that the steps of a machine eliminate.
use Rattle.std.proofs.Common.{◌≡◌, ◌∙◌, sym, ap, subst, ℕ, suc, ◌+◌, ◌≤◌, ℤ, List, [], ◌∷◌, length, Option, Some, None, IfNone, Ok, Err, refl, arith}
use Rattle.emtp_case.specs.StepRecord.{StepRecord}
use Rattle.emtp_case.specs.declared.case.Parts.{Parts}
use Rattle.emtp_machine.proofs.Histories.{count, some_records}
use Rattle.emtp_machine.proofs.Machines.{Answers, HasMoved, halts, history_ended, more, moves, rest_history, seen}
use Rattle.emtp_machine.specs.held.Controlled.{StandsFor}
use Rattle.emtp_machine.specs.History.{History, history, history_upto, redone, redone_by, rows_redone}
use Rattle.emtp_machine.specs.held.History.{next_ticks, rows_eliminated, rows_of_run, ticks, ticks_by, ticks_in}
use Rattle.emtp_machine.specs.held.Machine.{HasTicked, IsMachine, Progress, history_of, tried_of}
use Rattle.emtp_machine.specs.held.Samples.{Sampled}
use Rattle.emtp_machine.specs.declared.controlled.ControlledNetwork.{ControlledNetwork}
use Rattle.emtp_machine.specs.declared.end.Cause.{Cause}
use Rattle.emtp_machine.specs.declared.end.Cause.TheVariants.{Range, Residual, TacsPivot, TacsRange, Tied, ZeroPivot}
use Rattle.emtp_machine.specs.declared.end.End.{End}
use Rattle.emtp_net.proofs.Runs.{most_ticks, ticks_of_run}
use Rattle.emtp_net.specs.held.Redone.{step_ticks_after}
use Rattle.emtp_tacs.proofs.Runs.{most_ticks as most_control_ticks, ticks_of_run as control_ticks_of_run}
use Rattle.emtp_tacs.specs.held.Redone.{control_step_ticks_after}

-- ---- one step

after_some : (case : Parts) (n : ℕ) (H : List StepRecord) → length H ≡ n + 1 → step_ticks_after case H + control_step_ticks_after case H ≡ next_ticks case H
after_some case n [] count = absurd (omega (arith, count))
after_some case n (r ∷ past) count = refl

none_over : (case : Parts) (H : List StepRecord) (end : Option End) → end ≡ None → ticks_in end case H ≡ 0
none_over case H None is = refl
none_over case H (Some end) is = absurd (cc)

ticks-moved : (case : Parts) (n : ℕ) (now : ControlledNetwork) → (history_upto case n).end ≡ None → length (history_upto case n).records ≡ n + 1 → HasMoved case n now
    → ticks case (history_upto case (n + 1)) ≡ ticks case (history_upto case n) + next_ticks case (history_upto case n).records
ticks-moved case n now running count moved =
    let next : n + 1 ≡ suc n = omega arith in
    let whole = ap (history_upto case) next ∙ moved.history_is in
    let first = none_over case (history_upto case n).records (history_upto case n).end running in
    let second = none_over case (moved.r ∷ (history_upto case n).records) (history_upto case n).end running in
    let after = after_some case n (history_upto case n).records count in
    rw whole (omega (arith, first, second, after))

-- the rows that a step which is made eliminates
made-ticks : (case : Parts) (n : ℕ) (network now : ControlledNetwork) (row : List ℤ) (s : Sampled) (before after : ℕ) → IsMachine case network row s n None (history_upto case n)
    → Answers (Ok tt) case network now (n + 1) → ((H : List StepRecord) → StandsFor network H → after ≡ before + next_ticks case H)
    → after + ticks case (history_upto case n) ≡ before + ticks case (history_upto case (n + 1))
made-ticks case n network now row s before after m answers counted =
    let moved = moves case n network now row s m answers in
    let more = ticks-moved case n now m.ended m.count moved in
    omega (arith, more, counted (history_upto case n).records (m.running refl))

all-ticked : {held kept : List ℕ} (m : Progress) (case : Parts) (n k : ℕ) (before after : ℕ) → record { case = case; tried = n; capacities = held } ≡ m → after + ticks case (history_upto case n) ≡ before + ticks case (history_upto case k) → HasTicked m (record { case = case; tried = k; capacities = kept }) before after
all-ticked {kept = kept} m case n k before after view is = subst (λ (p : Progress). HasTicked p (record { case = case; tried = k; capacities = kept }) before after) view (record { most = omega (arith, is); all = λ running. is })

pub ticks-made : {held kept : List ℕ} (m : Progress) (case : Parts) (n : ℕ) (over : Option End) (network now : ControlledNetwork) (row : List ℤ) (s : Sampled) (before after : ℕ) → seen case n over held ≡ m → over ≡ None → IsMachine case network row s n over (history_upto case (tried_of n over))
    → Answers (Ok tt) case network now (n + 1) → ((H : List StepRecord) → StandsFor network H → after ≡ before + next_ticks case H)
    → HasTicked m (seen case (n + 1) over kept) before after
ticks-made m case n None network now row s before after view none is answers counted = all-ticked m case n (n + 1) before after view (made-ticks case n network now row s before after is answers counted)
ticks-made m case n (Some end) network now row s before after view none is answers counted = absurd (cc)

-- the most rows that a step which ends the run eliminates
ended-ticks : {held kept : List ℕ} (m : Progress) (case : Parts) (n : ℕ) (network now : ControlledNetwork) (row : List ℤ) (s : Sampled) (before after : ℕ) (end : End) → record { case = case; tried = n; capacities = held } ≡ m → IsMachine case network row s n None (history_upto case n)
    → Answers (Err end) case network now (n + 1) → ((H : List StepRecord) → StandsFor network H → after ≤ before + ticks_by end.cause case H)
    → HasTicked m (record { case = case; tried = n + 1; capacities = kept }) before after
ended-ticks {kept = kept} m case n network now row s before after end view is answers counted =
    let none = halts case n network now row s end is answers in
    let whole = history_ended case n now end is.ended is.count none in
    let first = none_over case (history_upto case n).records (history_upto case n).end is.ended in
    let step = counted (history_upto case n).records (is.running refl) in
    let all : after + ticks case (history_upto case n) ≤ before + ticks case (history_upto case (n + 1)) = rw whole (omega (arith, first, step)) in
    let over = ap (λ (h : History). h.end) whole in
    subst (λ (p : Progress). HasTicked p (record { case = case; tried = n + 1; capacities = kept }) before after) view (record { most = all; all = λ running. absurd (cc (running, over)) })

pub ticks-ended : {held kept : List ℕ} (m : Progress) (case : Parts) (n : ℕ) (over : Option End) (network now : ControlledNetwork) (row : List ℤ) (s : Sampled) (before after : ℕ) (end : End) → seen case n over held ≡ m → over ≡ None → IsMachine case network row s n over (history_upto case (tried_of n over))
    → Answers (Err end) case network now (n + 1) → ((H : List StepRecord) → StandsFor network H → after ≤ before + ticks_by end.cause case H)
    → HasTicked m (seen case n (Some end) kept) before after
ticks-ended m case n None network now row s before after end view none = ended-ticks m case n network now row s before after end view
ticks-ended m case n (Some e) network now row s before after end view none = absurd (cc)

-- ---- the rows of a whole run

rest_ticks : (case : Parts) → ticks case (history_upto case 0) ≡ 0
rest_ticks case = rw rest_history refl

all_rows : (case : Parts) (H : List StepRecord) → 2 ≤ length H → rows_eliminated case H ≡ length case.nodes + length case.blocks + rows_redone case H
all_rows case [] some = absurd (omega (arith, some))
all_rows case (r ∷ []) some = absurd (omega (arith, some))
all_rows case (r ∷ s ∷ past) some = omega (arith, ticks_of_run case r s past, control_ticks_of_run case r s past)

-- a step that is no first one counts what it eliminates
same_step : (case : Parts) (cause : Cause) (r s : StepRecord) (past : List StepRecord) → ticks_by cause case (r ∷ s ∷ past) ≡ redone_by cause case (r ∷ s ∷ past)
same_step case Tied r s past = refl
same_step case ZeroPivot r s past = refl
same_step case Range r s past = refl
same_step case Residual r s past = refl
same_step case TacsPivot r s past = refl
same_step case TacsRange r s past = refl

most_step : (case : Parts) (cause : Cause) (H : List StepRecord) → ticks_by cause case H ≤ length case.nodes + length case.blocks
most_step case Tied H = omega arith
most_step case ZeroPivot H = omega (arith, most_ticks case H)
most_step case Range H = omega (arith, most_ticks case H)
most_step case Residual H = omega (arith, most_ticks case H)
most_step case TacsPivot H = omega (arith, most_ticks case H, most_control_ticks case H)
most_step case TacsRange H = omega (arith, most_ticks case H, most_control_ticks case H)

most_rows : (case : Parts) (cause : Cause) (H : List StepRecord) → 1 ≤ length H → rows_eliminated case H + ticks_by cause case H ≤ length case.nodes + length case.blocks + (rows_redone case H + redone_by cause case H)
most_rows case cause [] some = absurd (omega (arith, some))
most_rows case cause (r ∷ []) some = omega (arith, most_step case cause (r ∷ []))
most_rows case cause (r ∷ s ∷ past) some = omega (arith, all_rows case (r ∷ s ∷ past) (omega arith), same_step case cause r s past)

-- from rest on, where the run didn't end early
rows_without : (case : Parts) (h : History) → h.end ≡ None → 2 ≤ length h.records → ticks case h ≡ length case.nodes + length case.blocks + redone case h
rows_without case h none some =
    let first = none_over case h.records h.end none in
    let second = more case h.records h.end none in
    omega (arith, first, second, all_rows case h.records some)

rows_within : (case : Parts) (h : History) (end : Option End) → h.end ≡ end → 1 ≤ length h.records → (end ≡ None → 2 ≤ length h.records) → ticks case h ≤ length case.nodes + length case.blocks + redone case h
rows_within case h None is some two = omega (arith, rows_without case h is (two refl))
rows_within case h (Some end) is some two = rw is (most_rows case end.cause h.records some)

-- how many records a whole history has
pub record IsWhole (case : Parts) (h : History) : Type 0 where
  pub some : 1 ≤ length h.records
  pub two : h.end ≡ None → 2 ≤ length h.records

pub whole_history : (case : Parts) → 1 ≤ case.run.steps → IsWhole case (history case)
whole_history case some = record {
  some = some_records case case.run.steps;
  two = λ none. omega (arith, count case case.run.steps none, some);
}

from_rest : (m : Progress) → m.tried ≡ 0 → ticks m.case (history_of m) ≡ 0
from_rest m fresh = ap (λ (n : ℕ). ticks m.case (history_upto m.case n)) fresh ∙ rest_ticks m.case

to_whole : (m p : Progress) → p.case ≡ m.case → history_of p ≡ history p.case → history_of p ≡ history m.case
to_whole m p same over = over ∙ ap (λ (c : Parts). history c) same

ticks_whole : (m p : Progress) → p.case ≡ m.case → history_of p ≡ history p.case → ticks p.case (history_of p) ≡ ticks m.case (history m.case)
ticks_whole m p same over = ap (λ (h : History). ticks p.case h) (to_whole m p same over) ∙ ap (λ (c : Parts). ticks c (history m.case)) same

-- the rows of a run from rest on
run-rows : (m p : Progress) (before after : ℕ) → HasTicked m p before after → p.case ≡ m.case → history_of p ≡ history p.case → IsWhole m.case (history m.case) → m.tried ≡ 0 → (history m.case).end ≡ None → after ≡ before + rows_of_run m.case
run-rows m p before after ticked same over whole fresh none =
    let here = ap (λ (h : History). h.end) (to_whole m p same over) ∙ none in
    let all = ticked.all here in
    omega (arith, all, from_rest m fresh, ticks_whole m p same over, rows_without m.case (history m.case) none (whole.two none))

by_none : {X P : Type 0} (o : Option X) → (o ≡ None → P) → IfNone o P
by_none None holds = holds refl
by_none (Some x) holds = tt

pub run-all : {held : List ℕ} (m p : Progress) (before after : ℕ) (case : Parts) (n : ℕ) (over : Option End) → HasTicked m p before after → p.case ≡ m.case → history_of p ≡ history p.case → IsWhole m.case (history m.case)
    → seen case n over held ≡ p → (history_upto case (tried_of n over)).end ≡ over → m.tried ≡ 0 → IfNone over (after ≡ before + rows_of_run m.case)
run-all m p before after case n over ticked same whole some view ended fresh =
    let end : (history m.case).end ≡ over = ap (λ (h : History). h.end) (sym (to_whole m p same whole)) ∙ ap (λ (q : Progress). (history_of q).end) (sym view) ∙ ended in
    by_none over (λ none. run-rows m p before after ticked same whole some fresh (end ∙ none))

pub run-most : (m p : Progress) (before after : ℕ) → HasTicked m p before after → p.case ≡ m.case → history_of p ≡ history p.case → IsWhole m.case (history m.case) → m.tried ≡ 0 → after ≤ before + rows_of_run m.case
run-most m p before after ticked same over whole fresh =
    omega (arith, ticked.most, from_rest m fresh, ticks_whole m p same over, rows_within m.case (history m.case) (history m.case).end refl whole.some whole.two)
