-- A machine, one step further.
use Rattle.std.proofs.Common.{◌≡◌, ◌≢◌, ◌∙◌, sym, ap, subst, ℕ, suc, ◌+◌, ◌-◌, ◌%◌, ◌*◌, ◌<◌, ◌≤◌, ℤ, List, [], ◌∷◌, ◌++◌, drop, take, length, Option, Some, None, Result, Ok, Err, refl, arith}
use Rattle.std.proofs.Math.ListN.{drop_of_length-le}
use Rattle.std.proofs.Math.Seq.{take-length}
use Rattle.std.proofs.lemmas.List.{append-nil, length_push}
use Rattle.emtp_case.specs.RunData.{samples_of}
use Rattle.emtp_case.specs.StepRecord.{StepRecord, latest, rest_of}
use Rattle.emtp_case.specs.declared.case.Parts.{Parts}
use Rattle.emtp_machine.proofs.Histories.{ended, made, stays}
use Rattle.emtp_machine.proofs.Sampling.{first, one_more, passed, room_left, taken}
use Rattle.emtp_machine.specs.Channels.{sample_of}
use Rattle.emtp_machine.specs.Machine.{IsNamed}
use Rattle.emtp_machine.specs.held.Controlled.{IsOf, MayMove, StandsFor, StepsTo, Stops, redone_of}
use Rattle.emtp_machine.specs.History.{History, end_at, history, history_upto, redone_in, rows_redone}
use Rattle.emtp_machine.specs.held.Machine.{AreSamples, IsMachine, Progress, history_of, tried_of}
use Rattle.emtp_machine.specs.Next.{Fault, next}
use Rattle.emtp_machine.specs.held.Samples.{Sampled}
use Rattle.emtp_machine.specs.declared.controlled.ControlledNetwork.{ControlledNetwork}
use Rattle.emtp_machine.specs.declared.end.End.{End}
use Rattle.emtp_net.specs.Redone.{net_redone}
use Rattle.emtp_tacs.specs.Redone.{control_redone}

-- a list that was written over is the one that was written
pub written : (now before : List ℤ) (len : ℕ) → length before ≡ len → length now ≡ length before → take len (now ++ drop (length now) before) ≡ now
written now before len all each =
    let none : drop (length now) before ≡ [] = drop_of_length-le before (omega (arith, each)) in
    let whole : len ≡ length now = omega (arith, all, each) in
    rw (none, append-nil, whole, take-length) refl

-- ---- a step that is made

-- the machine is at the next record
pub record HasMoved (case : Parts) (n : ℕ) (network : ControlledNetwork) : Type 0 where
  pub r : StepRecord
  pub history_is : history_upto case (suc n) ≡ record (history_upto case n) { records = r ∷ (history_upto case n).records }
  pub stands : StandsFor network (r ∷ (history_upto case n).records)

moved_by : (case : Parts) (n step : ℕ) (network : ControlledNetwork) (p : Result StepRecord Fault) → (history_upto case n).end ≡ None → next case (history_upto case n).records ≡ p
    → StepsTo (Ok tt) case network step (history_upto case n).records p → HasMoved case n network
moved_by case n step network (Ok r) running is stands = record { r = r; history_is = made case n r running is; stands = stands }
moved_by case n step network (Err fault) running is stands = absurd stands

-- what a step answers, at the records of the machine
abbrev pub Answers : Result (Unit {0}) End → Parts → ControlledNetwork → ControlledNetwork → ℕ → Type 0
Answers result case before now step = (H : List StepRecord) → StandsFor before H → StepsTo result case now step H (next case H)

pub moves : (case : Parts) (n : ℕ) (network now : ControlledNetwork) (row : List ℤ) (s : Sampled) → IsMachine case network row s n None (history_upto case n) → Answers (Ok tt) case network now (n + 1) → HasMoved case n now
moves case n network now row s m answers = moved_by case n (n + 1) now (next case (history_upto case n).records) m.ended refl (answers (history_upto case n).records (m.running refl))

-- ---- the samples

-- the next record is a sample
sampled : (case : Parts) (n : ℕ) (row new : List ℤ) (s t : Sampled) (r : StepRecord) → AreSamples case row s n (history_upto case n) → length (history_upto case n).records ≡ n + 1 → 1 ≤ case.run.every
    → (n + 1) % case.run.every ≡ 0 → length new ≡ length row → t ≡ record s { rows = s.rows ++ sample_of case r ∷ [] } → AreSamples case new t (n + 1) (record (history_upto case n) { records = r ∷ (history_upto case n).records })
sampled case n row new s t r are count some due width is = record {
  width = width ∙ are.width;
  channels = ap (λ (x : Sampled). x.channels) is ∙ are.channels;
  room = ap (λ (x : Sampled). x.room) is ∙ are.room;
  sampled = ap (λ (x : Sampled). x.rows) is ∙ ap (λ rows. rows ++ sample_of case r ∷ []) are.sampled
      ∙ sym (taken case r (history_upto case n).records (ap (λ (k : ℕ). k % case.run.every) count ∙ due));
  few = let longer : length t.rows ≡ length s.rows + 1 = ap (λ (x : Sampled). length x.rows) is ∙ length_push s.rows (sample_of case r) in
      let more = one_more (length s.rows) n case.run.every are.few due some in
      rw longer more;
}

-- the next record is no sample
unsampled : (case : Parts) (n : ℕ) (row : List ℤ) (s : Sampled) (r : StepRecord) → AreSamples case row s n (history_upto case n) → length (history_upto case n).records ≡ n + 1
    → (n + 1) % case.run.every ≢ 0 → AreSamples case row s (n + 1) (record (history_upto case n) { records = r ∷ (history_upto case n).records })
unsampled case n row s r are count due = record {
  width = are.width;
  channels = are.channels;
  room = are.room;
  sampled = are.sampled ∙ sym (passed case r (history_upto case n).records (λ none. due (ap (λ (k : ℕ). k % case.run.every) (sym count) ∙ none)));
  few = omega (arith, are.few);
}

-- ---- the machine after a step

-- without an end no step more is redone
pub more : (case : Parts) (H : List StepRecord) (end : Option End) → end ≡ None → rows_redone case H ≡ rows_redone case H + redone_in end case H
more case H None is = omega arith
more case H (Some end) is = absurd (cc)

-- the rows that both redid are those of the records
redone_both : (case : Parts) (network : ControlledNetwork) (H : List StepRecord) → IsOf case network → StandsFor network H → redone_of network ≡ rows_redone case H
redone_both case network H same stands =
    ap (λ (k : ℕ). k + network.control.redone) stands.network.redone
    ∙ ap (λ (k : ℕ). net_redone network.network.case H + k) stands.control.redone
    ∙ ap (λ (c : Parts). net_redone c H + control_redone network.control.case H) same.network
    ∙ ap (λ (c : Parts). net_redone case H + control_redone c H) same.control

at_next : (case : Parts) (n : ℕ) (network now : ControlledNetwork) (row line : List ℤ) (s t : Sampled) → IsMachine case network row s n None (history_upto case n) → n < case.run.steps → IsOf case now
    → (moved : HasMoved case n now) → AreSamples case line t (n + 1) (record (history_upto case n) { records = moved.r ∷ (history_upto case n).records })
    → IsMachine case now line t (n + 1) None (record (history_upto case n) { records = moved.r ∷ (history_upto case n).records })
at_next case n network now row line s t m left same moved are = record {
  case_is = same;
  running = λ none. moved.stands;
  samples_are = are;
  ended = m.ended;
  count = omega (arith, m.count);
  few = omega (arith, left);
  redone_is = redone_both case now (moved.r ∷ (history_upto case n).records) same moved.stands ∙ more case (moved.r ∷ (history_upto case n).records) (history_upto case n).end m.ended;
  names = tt;
}

-- the machine at the next record, which is a sample
machine-sampled : (case : Parts) (n : ℕ) (network now : ControlledNetwork) (row line : List ℤ) (s t : Sampled) → IsMachine case network row s n None (history_upto case n) → 1 ≤ case.run.every → n < case.run.steps
    → IsOf case now → Answers (Ok tt) case network now (n + 1) → (n + 1) % case.run.every ≡ 0 → length line ≡ length row
    → ((H : List StepRecord) → StandsFor now H → t ≡ record s { rows = s.rows ++ sample_of case (latest H) ∷ [] })
    → IsMachine case now line t (n + 1) None (history_upto case (n + 1))
machine-sampled case n network now row line s t m some left same answers due width took =
    let moved = moves case n network now row s m answers in
    let are = sampled case n row line s t moved.r m.samples_are m.count some due width (took (moved.r ∷ (history_upto case n).records) moved.stands) in
    let at = at_next case n network now row line s t m left same moved are in
    let next : n + 1 ≡ suc n = omega arith in
    let whole = ap (history_upto case) next ∙ moved.history_is in
    rw whole at

-- the machine at the next record, which is no sample
machine-unsampled : (case : Parts) (n : ℕ) (network now : ControlledNetwork) (row : List ℤ) (s : Sampled) → IsMachine case network row s n None (history_upto case n) → n < case.run.steps
    → IsOf case now → Answers (Ok tt) case network now (n + 1) → (n + 1) % case.run.every ≢ 0 → IsMachine case now row s (n + 1) None (history_upto case (n + 1))
machine-unsampled case n network now row s m left same answers due =
    let moved = moves case n network now row s m answers in
    let are = unsampled case n row s moved.r m.samples_are m.count due in
    let at = at_next case n network now row row s s m left same moved are in
    let next : n + 1 ≡ suc n = omega arith in
    let whole = ap (history_upto case) next ∙ moved.history_is in
    rw whole at

-- ---- the end

-- there is no next record
pub record HasNone (case : Parts) (now : ControlledNetwork) (n : ℕ) (end : End) : Type 0 where
  pub fault : Fault
  pub none : next case (history_upto case n).records ≡ Err fault
  pub stops : Stops case now (n + 1) (history_upto case n).records end fault

none_by : (case : Parts) (n : ℕ) (now : ControlledNetwork) (end : End) (p : Result StepRecord Fault) → next case (history_upto case n).records ≡ p → StepsTo (Err end) case now (n + 1) (history_upto case n).records p → HasNone case now n end
none_by case n now end (Ok r) is stops = absurd stops
none_by case n now end (Err fault) is stops = record { fault = fault; none = is; stops = stops }

pub halts : (case : Parts) (n : ℕ) (network now : ControlledNetwork) (row : List ℤ) (s : Sampled) (end : End) → IsMachine case network row s n None (history_upto case n) → Answers (Err end) case network now (n + 1) → HasNone case now n end
halts case n network now row s end m answers = none_by case n now end (next case (history_upto case n).records) refl (answers (history_upto case n).records (m.running refl))

-- the history ends with it
pub history_ended : (case : Parts) (n : ℕ) (now : ControlledNetwork) (end : End) → (history_upto case n).end ≡ None → length (history_upto case n).records ≡ n + 1 → HasNone case now n end
    → history_upto case (n + 1) ≡ record (history_upto case n) { end = Some end }
history_ended case n now end running count none =
    let next : n + 1 ≡ suc n = omega arith in
    ap (history_upto case) next ∙ ended case n none.fault running none.none
    ∙ ap (λ (k : ℕ). record (history_upto case n) { end = Some (end_at k none.fault) }) count
    ∙ ap (λ (e : End). record (history_upto case n) { end = Some e }) (sym none.stops.end_is)

at_end : (case : Parts) (n : ℕ) (network now : ControlledNetwork) (row : List ℤ) (s : Sampled) (end : End) → IsMachine case network row s n None (history_upto case n) → n < case.run.steps → IsOf case now
    → HasNone case now n end → end.step ≡ n + 1 → IsNamed case end.name → IsMachine case now row s n (Some end) (record (history_upto case n) { end = Some end })
at_end case n network now row s end m left same none number named = record {
  case_is = same;
  running = λ none. absurd (cc);
  samples_are = record { width = m.samples_are.width; channels = m.samples_are.channels; room = m.samples_are.room; sampled = m.samples_are.sampled; few = m.samples_are.few };
  ended = refl;
  count = m.count;
  few = omega (arith, left);
  redone_is = none.stops.redone_is ∙ ap (λ (e : End). rows_redone case (history_upto case n).records + redone_in (Some e) case (history_upto case n).records) (sym none.stops.end_is);
  names = record { some = omega (arith, number); within = omega (arith, number, left); named = named };
}

-- the machine at its end
machine-ended : (case : Parts) (n : ℕ) (network now : ControlledNetwork) (row : List ℤ) (s : Sampled) (end : End) → IsMachine case network row s n None (history_upto case n) → n < case.run.steps → IsOf case now
    → Answers (Err end) case network now (n + 1) → end.step ≡ n + 1 → IsNamed case end.name → IsMachine case now row s n (Some end) (history_upto case (n + 1))
machine-ended case n network now row s end m left same answers number named =
    let none = halts case n network now row s end m answers in
    let whole = history_ended case n now end m.ended m.count none in
    rw whole (at_end case n network now row s end m left same none number named)

-- ---- with the end as the machine keeps it

pub takes : (case : Parts) (n : ℕ) (over : Option End) (network now : ControlledNetwork) (row line : List ℤ) (s t : Sampled) → over ≡ None → IsMachine case network row s n over (history_upto case (tried_of n over)) → 1 ≤ case.run.every → n < case.run.steps
    → IsOf case now → Answers (Ok tt) case network now (n + 1) → (n + 1) % case.run.every ≡ 0 → length line ≡ length row
    → ((H : List StepRecord) → StandsFor now H → t ≡ record s { rows = s.rows ++ sample_of case (latest H) ∷ [] })
    → IsMachine case now line t (n + 1) over (history_upto case (tried_of (n + 1) over))
takes case n None network now row line s t running = machine-sampled case n network now row line s t
takes case n (Some end) network now row line s t running = absurd (cc)

pub passes : (case : Parts) (n : ℕ) (over : Option End) (network now : ControlledNetwork) (row : List ℤ) (s : Sampled) → over ≡ None → IsMachine case network row s n over (history_upto case (tried_of n over)) → n < case.run.steps
    → IsOf case now → Answers (Ok tt) case network now (n + 1) → (n + 1) % case.run.every ≢ 0 → IsMachine case now row s (n + 1) over (history_upto case (tried_of (n + 1) over))
passes case n None network now row s running = machine-unsampled case n network now row s
passes case n (Some end) network now row s running = absurd (cc)

pub ends : (case : Parts) (n : ℕ) (over : Option End) (network now : ControlledNetwork) (row : List ℤ) (s : Sampled) (end : End) → over ≡ None → IsMachine case network row s n over (history_upto case (tried_of n over)) → n < case.run.steps → IsOf case now
    → Answers (Err end) case network now (n + 1) → end.step ≡ n + 1 → IsNamed case end.name → IsMachine case now row s n (Some end) (history_upto case (n + 1))
ends case n None network now row s end running = machine-ended case n network now row s end
ends case n (Some e) network now row s end running = absurd (cc)

-- ---- what a machine knows before a step

-- the machine as a contract sees it
abbrev pub seen : Parts → ℕ → Option End → List ℕ → Progress
seen case n over held = record { case = case; tried = tried_of n over; capacities = held }

pub is_running : {held : List ℕ} (m : Progress) (case : Parts) (n : ℕ) (over : Option End) → seen case n over held ≡ m → (history_of m).end ≡ None → (history_upto case (tried_of n over)).end ≡ over → over ≡ None
is_running m case n over view running is = sym is ∙ ap (λ (p : Progress). (history_of p).end) view ∙ running

pub is_left : {held : List ℕ} (m : Progress) (case : Parts) (n : ℕ) (over : Option End) → seen case n over held ≡ m → over ≡ None → m.tried < m.case.run.steps → n < case.run.steps
is_left m case n over view none left =
    let same : n ≡ m.tried = ap (tried_of n) (sym none) ∙ ap (λ (p : Progress). p.tried) view in
    let steps : case.run.steps ≡ m.case.run.steps = ap (λ (p : Progress). p.case.run.steps) view in
    omega (arith, same, steps, left)

-- both may make a step
may_move : (case : Parts) (n : ℕ) (network : ControlledNetwork) (row : List ℤ) (s : Sampled) → IsMachine case network row s n None (history_upto case n) → n < case.run.steps → MayMove case network
may_move case n network row s m left =
    let stands = m.running refl in
    record { network = omega (arith, stands.network.steps, m.count, left); control = omega (arith, stands.control.steps, m.count, left) }

pub may_step : (case : Parts) (n : ℕ) (over : Option End) (network : ControlledNetwork) (row : List ℤ) (s : Sampled) → over ≡ None → IsMachine case network row s n over (history_upto case (tried_of n over)) → n < case.run.steps → MayMove case network
may_step case n None network row s running = may_move case n network row s
may_step case n (Some end) network row s running = absurd (cc)

pub has_room : (case : Parts) (n : ℕ) (row : List ℤ) (s : Sampled) (h : History) → AreSamples case row s n h → (n + 1) % case.run.every ≡ 0 → 1 ≤ case.run.every → n < case.run.steps → length s.rows < s.room
has_room case n row s h are due some left =
    let room = room_left (length s.rows) n case.run.every case.run.steps are.few due some left in
    rw are.room room

-- ---- the machine at rest

pub rest_history : (case : Parts) → history_upto case 0 ≡ record { records = rest_of case ∷ []; end = None }
unfolding history_upto
rest_history case = refl

at_rest : (case : Parts) (network : ControlledNetwork) (row : List ℤ) (s : Sampled) → IsOf case network → StandsFor network (rest_of case ∷ []) → length row ≡ length case.channels → s ≡ record { rows = sample_of case (rest_of case) ∷ []; channels = length case.channels; room = samples_of case.run; capacity = samples_of case.run * length case.channels }
    → 1 ≤ case.run.steps → IsMachine case network row s 0 None (record { records = rest_of case ∷ []; end = None })
at_rest case network row s same stands width is some = record {
  case_is = same;
  running = λ none. stands;
  samples_are = record {
    width = width;
    channels = ap (λ (x : Sampled). x.channels) is;
    room = ap (λ (x : Sampled). x.room) is;
    sampled = ap (λ (x : Sampled). x.rows) is ∙ sym (first case (rest_of case));
    few = let one : length s.rows ≡ 1 = ap (λ (x : Sampled). length x.rows) is in rw one (omega arith);
  };
  ended = refl;
  count = refl;
  few = omega arith;
  redone_is = redone_both case network (rest_of case ∷ []) same stands;
  names = tt;
}

pub starts : (case : Parts) (network : ControlledNetwork) (row : List ℤ) (s t : Sampled) → IsOf case network → StandsFor network (rest_of case ∷ []) → length row ≡ length case.channels → s ≡ record { rows = []; channels = length case.channels; room = samples_of case.run; capacity = samples_of case.run * length case.channels }
    → t ≡ record s { rows = s.rows ++ sample_of case (rest_of case) ∷ [] } → 1 ≤ case.run.steps → IsMachine case network row t 0 None (history_upto case 0)
starts case network row s t same stands width is is_t some = rw rest_history (at_rest case network row t same stands width (rw is at is_t) some)

-- ---- a run that is over

over_by : (case : Parts) (n k : ℕ) (end : Option End) → (history_upto case n).end ≡ end → end ≢ None → n ≤ k → history_upto case n ≡ history_upto case k
over_by case n k None is over within = absurd (over refl)
over_by case n k (Some end) is over within = sym (stays case n (k - n) k end (omega (arith, within)) is)

-- a machine whose end came has the whole history
pub over-ended : {held : List ℕ} (m : Progress) (case : Parts) (network : ControlledNetwork) (row : List ℤ) (s : Sampled) (n : ℕ) (over : Option End) → seen case n over held ≡ m → IsMachine case network row s n over (history_upto case (tried_of n over)) → over ≢ None
    → history_of m ≡ history m.case
over-ended m case network row s n over view is some = subst (λ (p : Progress). history_of p ≡ history p.case) view (over_by case (tried_of n over) case.run.steps over is.ended some is.few)

-- the case of a machine stays
pub steps_of : {held : List ℕ} (m p : Progress) (case : Parts) (n : ℕ) (over : Option End) → p.case ≡ m.case → seen case n over held ≡ p → 1 ≤ case.run.steps → 1 ≤ m.case.run.steps
steps_of m p case n over same view some = subst (λ (c : Parts). 1 ≤ c.run.steps) (ap (λ (q : Progress). q.case) view ∙ same) some
