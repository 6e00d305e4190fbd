-- The cards of a deck stand in the order of their lines.
use Rattle.std.proofs.Common.{◌≡◌, ◌∙◌, sym, ap, subst, refl, ℕ, suc, ◌+◌, ℤ, Bool, true, false, List, [], ◌∷◌, ◌++◌, length, Option, Some, None, Result, Ok, Err, arith, append_assoc}
use Rattle.std.specs.List.{starts_with}
use Rattle.std.specs.Prelude.{IfOk, if◌then◌else◌, nat_eq, codes}
use Rattle.std.proofs.lemmas.List.{append-nil, map-append}
use Rattle.emtp_fix.specs.Chain.{unless}
use Rattle.emtp_card.specs.Fault.{judge}
use Rattle.emtp_card.specs.Lines.{is_comment, is_section_end}
use Rattle.emtp_card.specs.declared.reason.Bad.{Bad}
use Rattle.emtp_card.specs.declared.reason.Why.{Why}
use Rattle.emtp_card.specs.declared.reason.Why.TheVariants.{BadOrder}
use Rattle.emtp_case.specs.declared.branch.Point.{Point}
use Rattle.emtp_walk.specs.Answer.{go_on}
use Rattle.emtp_walk.specs.Laws.{Rises, branch_lines, card_lines, control_lines, entry_lines, output_lines, source_lines, switch_lines}
use Rattle.emtp_walk.specs.LineRead.{Read, order_fault}
use Rattle.emtp_walk.specs.declared.control_cards.ControlCards.{ControlCards}
use Rattle.emtp_walk.specs.declared.control_cards.ControlPlace.{ControlPlace}
use Rattle.emtp_walk.specs.declared.control_cards.ControlPlace.TheVariants.{Blocks, Denominator, DevicePoints, Extras, Initial, Numerator, TacsOutputs, TacsSources}
use Rattle.emtp_netcards.specs.OutputCard.{output_card}
use Rattle.emtp_netcards.specs.PointCard.{next_point}
use Rattle.emtp_netcards.specs.RunCards.{first_card, second_card, tolerance_card}
use Rattle.emtp_netcards.specs.VintageCard.{is_vintage, vintage_card}
use Rattle.emtp_walk.specs.Walk.{scale_of, advance, after_place, begin_fault, begin_place, branch_step, card_step, empty_deck, first_step, is_phase, is_second, output_step, point_step, second_step, source_step, start_step, step, switch_step, point_or_end, take_branch, take_copied, take_third, take_values, third_by, third_step, times_step, tolerance_step, vintage_or, waiting_step, walk, with_card}
use Rattle.emtp_walk.specs.declared.deck.BranchEntry.{BranchEntry}
use Rattle.emtp_walk.specs.declared.deck.BranchEntry.TheVariants.{Single, Trio}
use Rattle.emtp_walk.specs.declared.deck.Deck.{Deck}
use Rattle.emtp_walk.specs.declared.deck.Group.{Group}
use Rattle.emtp_walk.specs.declared.deck.OutputEntry.{OutputEntry}
use Rattle.emtp_walk.specs.declared.deck.Place.{Place}
use Rattle.emtp_walk.specs.declared.deck.Place.TheVariants.{After, Begin, Branches, Control, First, Outputs, Points, Second, Sources, Start, Switches, Third, Waiting}
use Rattle.emtp_netcards.specs.BranchCard as branches
use Rattle.emtp_netcards.specs.SourceCard as sources
use Rattle.emtp_netcards.specs.SwitchCard as switches
use Rattle.emtp_netcards.proofs.CardLines.{branch_line, source_line, switch_line}
use Rattle.emtp_netcards.specs.declared.branch_card.BranchCard.{BranchCard}
use Rattle.emtp_netcards.specs.declared.branch_card.BranchKind.{BranchKind}
use Rattle.emtp_netcards.specs.declared.branch_card.BranchKind.TheVariants.{Line as LineKind, Reactor as ReactorKind, Resistor as ResistorKind, Second as SecondKind, Series as SeriesKind, Third as ThirdKind}
use Rattle.emtp_netcards.specs.declared.branch_card.BranchValues.{BranchValues}
use Rattle.emtp_netcards.specs.declared.branch_card.BranchValues.TheVariants.{Copied as CopiedCard, Line as LineCard, Lumped as LumpedCard, Reactor as ReactorCard, Resistor as ResistorCard, Second as SecondCard, Third as ThirdCard}
use Rattle.emtp_netcards.specs.declared.output_card.OutputCard.{OutputCard}
use Rattle.emtp_netcards.specs.declared.run_cards.FirstCard.{FirstCard}
use Rattle.emtp_netcards.specs.declared.source_card.SourceCard.{SourceCard}
use Rattle.emtp_netcards.specs.declared.switch_card.SwitchCard.{SwitchCard}
use Rattle.emtp_walk.proofs.Rising.{later, front, behind, if_ok, go_ok, unless_ok, front_lines, IsHead, IsAmongBranches, IsAmongSwitches, IsAmongSources, IsAmongBlocks, IsAmongSignals, IsAmongExtras, IsAmongControl, IsAmongOutputs, InOrder, Orders, head_later, branches_later, passed, placed}
use Rattle.emtp_walk.proofs.ControlOrder.{branches_next, control_order}

-- ---- entries

more_branches : (es : List BranchEntry) (e : BranchEntry) → branch_lines (es ++ e ∷ []) ≡ branch_lines es ++ entry_lines e
more_branches [] e = append-nil (entry_lines e)
more_branches (x ∷ xs) e = ap (λ ls. entry_lines x ++ ls) (more_branches xs e) ∙ sym (append_assoc (entry_lines x) (branch_lines xs) (entry_lines e))

-- ---- in front of the sections and behind them

begin_order : (deck : Deck) (number : ℕ) (line : List ℕ) → IsHead deck number → IfOk (begin_place number line) (λ place. InOrder (number + 1) deck place)
unfolding begin_place
begin_order deck number line h =
    let next = head_later deck number h in
    if_ok (λ (place : Place). InOrder (number + 1) deck place) (is_section_end line) (Ok Begin) (unless (begin_fault number line) (λ bad. bad) (Ok (First false))) next
    (unless_ok (λ (place : Place). InOrder (number + 1) deck place) (begin_fault number line) (First false) next)

after_order : (deck : Deck) (number : ℕ) (line : List ℕ) (seen : Bool) → IsAmongOutputs deck (number + 1) → IfOk (after_place number line seen) (λ place. InOrder (number + 1) deck place)
unfolding after_place
after_order deck number line seen h =
    if_ok (λ (place : Place). InOrder (number + 1) deck place) (is_section_end line) (Ok (After seen)) (unless (if seen then order_fault number line else begin_fault number line) (λ bad. bad) (Ok (After true))) h
    (unless_ok (λ (place : Place). InOrder (number + 1) deck place) (if seen then order_fault number line else begin_fault number line) (After true) h)

tolerance_order : (deck : Deck) (number : ℕ) (line : List ℕ) (seen : Bool) → IsHead deck number → IfOk (tolerance_step deck number line seen) (Orders (number + 1))
unfolding tolerance_step
tolerance_order deck number line seen h =
    let next = head_later deck number h in
    let f : ℤ → Read = λ z. Ok (record deck { run = record deck.run { tolerance = z } }, First true) in
    if_ok (Orders (number + 1)) seen (unless (order_fault number line) (λ bad. bad) (Ok (deck, First true))) (go_on f (tolerance_card number line)) (unless_ok (Orders (number + 1)) (order_fault number line) (deck, First true) next)
    (go_ok (Orders (number + 1)) f (tolerance_card number line) (λ z is. record {
      early = record { switches = h.early.switches; sources = h.early.sources; outputs = h.early.outputs };
      control = h.control;
      branches = h.branches;
      second = next.second;
    }))

times_order : (deck : Deck) (number : ℕ) (line : List ℕ) → IsHead deck number → IfOk (times_step deck number line) (Orders (number + 1))
unfolding times_step
times_order deck number line h =
    let next = head_later deck number h in
    let f : FirstCard → Read = λ card. Ok (record deck { run = record deck.run { dt = card.dt; steps = card.steps } }, Second) in
    go_ok (Orders (number + 1)) f (first_card number line) (λ card is. record {
      early = record { switches = h.early.switches; sources = h.early.sources; outputs = h.early.outputs };
      control = h.control;
      branches = h.branches;
      second = next.second;
    })

first_order : (deck : Deck) (number : ℕ) (line : List ℕ) (seen : Bool) → IsHead deck number → IfOk (first_step deck number line seen) (Orders (number + 1))
unfolding first_step
first_order deck number line seen h = if_ok (Orders (number + 1)) (starts_with nat_eq line (codes "RESIDUAL TOLERANCE")) (tolerance_step deck number line seen) (times_step deck number line) (tolerance_order deck number line seen h) (times_order deck number line h)

second_order : (deck : Deck) (number : ℕ) (line : List ℕ) → IsHead deck number → IfOk (second_step deck number line) (Orders (number + 1))
unfolding second_step
second_order deck number line h =
    let f : ℕ → Read = λ every. Ok (record deck { run = record deck.run { every = every }; second = number }, Start) in
    go_ok (Orders (number + 1)) f (second_card number line) (λ every is. record {
      early = record { switches = h.early.switches; sources = h.early.sources; outputs = h.early.outputs };
      control = h.control;
      branches = h.branches;
      second = omega arith;
    })

-- ---- branches

put : (deck : Deck) (e : BranchEntry) (number : ℕ) → IsAmongBranches deck (entry_lines e) number → IsAmongBranches (record deck { branches = deck.branches ++ e ∷ [] }) [] number
put deck e number h = record {
  early = record { switches = h.early.switches; sources = h.early.sources; outputs = h.early.outputs };
  rises = subst (λ ls. Rises (deck.second + 1) ls number) (sym (append-nil (control_lines deck.control ++ branch_lines (deck.branches ++ e ∷ []))
      ∙ ap (λ ls. control_lines deck.control ++ ls) (more_branches deck.branches e) ∙ sym (append_assoc (control_lines deck.control) (branch_lines deck.branches) (entry_lines e)))) h.rises;
}

pend : (deck : Deck) (pending : List ℕ) (n number : ℕ) → n ≡ number → IsAmongBranches deck pending number → IsAmongBranches deck (pending ++ n ∷ []) (number + 1)
pend deck pending n number e h = record { early = h.early; rises = behind (deck.second + 1) (front_lines deck) pending n number e h.rises }

-- the pending cards don't matter any more
dropped : (deck : Deck) (pending : List ℕ) (number : ℕ) → IsAmongBranches deck pending number → IsAmongBranches deck [] (number + 1)
dropped deck pending number h = record {
  early = h.early;
  rises = subst (λ ls. Rises (deck.second + 1) ls (number + 1)) (sym (append-nil (front_lines deck)))
      (later (deck.second + 1) (front_lines deck) number (number + 1) (omega arith) (front (deck.second + 1) (front_lines deck) pending number h.rises));
}

copied_order : (deck : Deck) (card : BranchCard) (wide : Bool) (number : ℕ) (kind : BranchKind) → IsAmongBranches deck (card.line ∷ []) number → Orders number (take_copied deck card wide kind)
copied_order deck card wide number LineKind h = h
copied_order deck card wide number SeriesKind h = put deck (Single card 0 0) number h
copied_order deck card wide number SecondKind h = put deck (Single card 0 0) number h
copied_order deck card wide number ThirdKind h = put deck (Single card 0 0) number h
copied_order deck card wide number ReactorKind h = put deck (Single card 0 0) number h
copied_order deck card wide number ResistorKind h = put deck (Single card 0 0) number h

values_order : (deck : Deck) (card : BranchCard) (wide : Bool) (number : ℕ) (values : BranchValues) → IsAmongBranches deck (card.line ∷ []) number → Orders number (take_values deck card wide values)
values_order deck card wide number (LumpedCard r l c) h = put deck (Single card 0 0) number h
values_order deck card wide number (LineCard zc r delay) h = h
values_order deck card wide number (SecondCard zc r delay) h = put deck (Single card 0 0) number h
values_order deck card wide number ThirdCard h = put deck (Single card 0 0) number h
values_order deck card wide number ReactorCard h = h
values_order deck card wide number ResistorCard h = h
values_order deck card wide number (CopiedCard kind a b) h = copied_order deck card wide number kind h

card_order : (deck : Deck) (number : ℕ) (line : List ℕ) (wide : Bool) → IsAmongBranches deck [] number → IfOk (card_step deck number line wide) (Orders (number + 1))
unfolding card_step
card_order deck number line wide h =
    let f : BranchCard → Read = λ card. Ok (take_branch deck card wide) in
    if_ok (Orders (number + 1)) (is_phase (branches.kind_field line)) (unless (order_fault number line) (λ bad. bad) (Ok (deck, Branches wide))) (go_on f (branches.branch_card number line deck.run.dt wide))
    (unless_ok (Orders (number + 1)) (order_fault number line) (deck, Branches wide) (branches_later deck [] number h))
    (go_ok (Orders (number + 1)) f (branches.branch_card number line deck.run.dt wide)
    (λ card is. values_order deck card wide (number + 1) card.values (pend deck [] card.line number (branch_line number line deck.run.dt wide card is) h)))

vintage_order : (deck : Deck) (number : ℕ) (vintage : Option (Result Bool Bad)) (card : Read) → IsAmongBranches deck [] number → IfOk card (Orders number) → IfOk (vintage_or deck vintage card) (Orders number)
vintage_order deck number None card h k = k
vintage_order deck number (Some width) card h k = go_ok (Orders number) _ width (λ wide is. h)

branch_order : (deck : Deck) (number : ℕ) (line : List ℕ) (wide : Bool) → IsAmongBranches deck [] number → IfOk (branch_step deck number line wide) (Orders (number + 1))
unfolding branch_step
branch_order deck number line wide h =
    let next = branches_later deck [] number h in
    if_ok (Orders (number + 1)) (is_section_end line) (Ok (deck, Switches)) (vintage_or deck (vintage_card number line) (card_step deck number line wide))
    (record { sources = h.early.sources; outputs = h.early.outputs; rises = rw h.early.switches next.rises })
    (vintage_order deck (number + 1) (vintage_card number line) (card_step deck number line wide) next (card_order deck number line wide h))

-- ---- the branches begin, or the control

no_cards : (deck : Deck) (number : ℕ) → IsHead deck number → IsAmongBranches deck [] number
no_cards deck number h = record { early = h.early; rises = rw (h.control, h.branches) h.second }

control_begins : (deck : Deck) (number : ℕ) → IsHead deck number → IsAmongBlocks deck [] number
control_begins deck number h = record {
  early = h.early;
  branches = h.branches;
  signals = ap (λ (c : ControlCards). c.sources) h.control;
  extras = ap (λ (c : ControlCards). c.extras) h.control;
  outputs = ap (λ (c : ControlCards). c.outputs) h.control;
  rises = rw h.control h.second;
}

start_order : (deck : Deck) (number : ℕ) (line : List ℕ) → IsHead deck number → IfOk (start_step deck number line) (Orders (number + 1))
unfolding start_step
start_order deck number line h =
    let control : Read = unless (judge number line None) (λ bad. bad) (Ok (deck, Control Blocks)) in
    let branch : Read = branch_step deck number line false in
    let starts = starts_with nat_eq line (codes "TACS HYBRID") in
    if_ok (Orders (number + 1)) starts control branch
    (unless_ok (Orders (number + 1)) (judge number line None) (deck, Control Blocks) (control_begins deck (number + 1) (head_later deck number h)))
    (branch_order deck number line false (no_cards deck number h))

waiting_order : (deck : Deck) (number : ℕ) (line : List ℕ) (card : BranchCard) (wide : Bool) → IsAmongBranches deck (card.line ∷ []) number → IfOk (waiting_step deck number line card wide) (Orders (number + 1))
unfolding waiting_step
waiting_order deck number line card wide h =
    let f : BranchCard → Read = λ positive. Ok (deck, Third card positive wide) in
    if_ok (Orders (number + 1)) (is_second (branches.kind_field line)) (go_on f (branches.branch_card number line deck.run.dt wide)) (branch_step (with_card deck card) number line wide)
    (go_ok (Orders (number + 1)) f (branches.branch_card number line deck.run.dt wide)
    (λ positive is. pend deck (card.line ∷ []) positive.line number (branch_line number line deck.run.dt wide positive is) h))
    (branch_order (with_card deck card) number line wide (put deck (Single card 0 0) number h))

taken_third : (deck : Deck) (number : ℕ) (line : List ℕ) (zero' positive : BranchCard) (wide : Bool) → IsAmongBranches deck (zero'.line ∷ positive.line ∷ []) number → IfOk (take_third deck number line zero' positive wide) (Orders (number + 1))
taken_third deck number line zero' positive wide h =
    go_ok (Orders (number + 1)) _ (branches.branch_card number line deck.run.dt wide)
    (λ third is. put deck (Trio zero' positive third) (number + 1) (pend deck (zero'.line ∷ positive.line ∷ []) third.line number (branch_line number line deck.run.dt wide third is) h))

kind_order : (deck : Deck) (number : ℕ) (line : List ℕ) (zero' positive : BranchCard) (wide : Bool) (kind : Result BranchKind Why) → IsAmongBranches deck (zero'.line ∷ positive.line ∷ []) number → IfOk (third_by deck number line zero' positive wide kind) (Orders (number + 1))
kind_order deck number line zero' positive wide (Ok SeriesKind) h = unless_ok (Orders (number + 1)) (order_fault number line) (deck, Branches wide) (dropped deck (zero'.line ∷ positive.line ∷ []) number h)
kind_order deck number line zero' positive wide (Ok LineKind) h = unless_ok (Orders (number + 1)) (order_fault number line) (deck, Branches wide) (dropped deck (zero'.line ∷ positive.line ∷ []) number h)
kind_order deck number line zero' positive wide (Ok SecondKind) h = unless_ok (Orders (number + 1)) (order_fault number line) (deck, Branches wide) (dropped deck (zero'.line ∷ positive.line ∷ []) number h)
kind_order deck number line zero' positive wide (Ok ThirdKind) h = taken_third deck number line zero' positive wide h
kind_order deck number line zero' positive wide (Ok ReactorKind) h = unless_ok (Orders (number + 1)) (order_fault number line) (deck, Branches wide) (dropped deck (zero'.line ∷ positive.line ∷ []) number h)
kind_order deck number line zero' positive wide (Ok ResistorKind) h = unless_ok (Orders (number + 1)) (order_fault number line) (deck, Branches wide) (dropped deck (zero'.line ∷ positive.line ∷ []) number h)
kind_order deck number line zero' positive wide (Err why) h =
    let misplaced : Read = unless (order_fault number line) (λ bad. bad) (Ok (deck, Branches wide)) in
    if_ok (Orders (number + 1)) (is_vintage line) misplaced (take_third deck number line zero' positive wide)
    (unless_ok (Orders (number + 1)) (order_fault number line) (deck, Branches wide) (dropped deck (zero'.line ∷ positive.line ∷ []) number h)) (taken_third deck number line zero' positive wide h)

third_order : (deck : Deck) (number : ℕ) (line : List ℕ) (zero' positive : BranchCard) (wide : Bool) → IsAmongBranches deck (zero'.line ∷ positive.line ∷ []) number → IfOk (third_step deck number line zero' positive wide) (Orders (number + 1))
unfolding third_step
third_order deck number line zero' positive wide h =
    let bad : Bad = record { line = number; column = 1; why = BadOrder } in
    if_ok (Orders (number + 1)) (is_section_end line) (Err bad) (third_by deck number line zero' positive wide (branches.kind_field line)) tt (kind_order deck number line zero' positive wide (branches.kind_field line) h)

point_order : (deck : Deck) (number : ℕ) (line : List ℕ) (group : Group) → IsAmongBranches deck (group.card.line ∷ []) number → IfOk (point_step deck number line group) (Orders (number + 1))
unfolding point_step
point_order deck number line group h =
    let f : Option Point → Read = λ point. Ok (point_or_end deck group point) in
    go_ok (Orders (number + 1)) f (next_point number line (scale_of group) group.before group.count deck.run.dt) (λ point is. one point)
  where
    one : (point : Option Point) → Orders (number + 1) (point_or_end deck group point)
    one (Some point) = record {
      early = record { switches = h.early.switches; sources = h.early.sources; outputs = h.early.outputs };
      rises = later (deck.second + 1) (front_lines deck ++ group.card.line ∷ []) number (number + 1) (omega arith) h.rises;
    }
    one None = put deck (Single group.card group.first group.count) (number + 1) (branches_later deck (group.card.line ∷ []) number h)

-- ---- switches, sources, outputs

switch_order : (deck : Deck) (number : ℕ) (line : List ℕ) → IsAmongSwitches deck number → IfOk (switch_step deck number line) (Orders (number + 1))
unfolding switch_step
switch_order deck number line h =
    let low = deck.second + 1 in
    let before = front_lines deck in
    let next = later low (before ++ switch_lines deck.switches) number (number + 1) (omega arith) h.rises in
    let f : SwitchCard → Read = λ card. Ok (record deck { switches = deck.switches ++ card ∷ [] }, Switches) in
    let built : Read = go_on f (switches.switch_card number line) in
    if_ok (Orders (number + 1)) (is_section_end line) (Ok (deck, Sources)) built
    (record { outputs = h.outputs; rises = rw h.sources (subst (λ ls. Rises low ls (number + 1)) (sym (append-nil (before ++ switch_lines deck.switches))) next) })
    (go_ok (Orders (number + 1)) f (switches.switch_card number line) (λ card is. record {
      sources = h.sources;
      outputs = h.outputs;
      rises = subst (λ ls. Rises low (before ++ ls) (number + 1)) (sym (map-append (λ (c : SwitchCard). c.line) deck.switches (card ∷ [])))
          (behind low before (switch_lines deck.switches) card.line number (switch_line number line card is) h.rises);
    }))

source_order : (deck : Deck) (number : ℕ) (line : List ℕ) → IsAmongSources deck number → IfOk (source_step deck number line) (Orders (number + 1))
unfolding source_step
source_order deck number line h =
    let low = deck.second + 1 in
    let before = front_lines deck ++ switch_lines deck.switches in
    let next = later low (before ++ source_lines deck.sources) number (number + 1) (omega arith) h.rises in
    let f : SourceCard → Read = λ card. Ok (record deck { sources = deck.sources ++ card ∷ [] }, Sources) in
    let built : Read = go_on f (sources.source_card number line) in
    if_ok (Orders (number + 1)) (is_section_end line) (Ok (deck, Outputs)) built
    (rw h.outputs (subst (λ ls. Rises low ls (number + 1)) (sym (append-nil (before ++ source_lines deck.sources))) next))
    (go_ok (Orders (number + 1)) f (sources.source_card number line) (λ card is. record {
      outputs = h.outputs;
      rises = subst (λ ls. Rises low (before ++ ls) (number + 1)) (sym (map-append (λ (c : SourceCard). c.line) deck.sources (card ∷ [])))
          (behind low before (source_lines deck.sources) card.line number (source_line number line card is) h.rises);
    }))

output_order : (deck : Deck) (number : ℕ) (line : List ℕ) → IsAmongOutputs deck number → IfOk (output_step deck number line) (Orders (number + 1))
unfolding output_step
output_order deck number line h =
    let low = deck.second + 1 in
    let before = front_lines deck ++ switch_lines deck.switches ++ source_lines deck.sources in
    let f : OutputCard → Read = λ card. Ok (record deck { outputs = deck.outputs ++ (record { line = number; card = card }) ∷ [] }, Outputs) in
    if_ok (Orders (number + 1)) (is_section_end line) (Ok (deck, After false)) (go_on f (output_card number line))
    (later low (before ++ output_lines deck.outputs) number (number + 1) (omega arith) h)
    (go_ok (Orders (number + 1)) f (output_card number line) (λ card is.
    subst (λ ls. Rises low (before ++ ls) (number + 1)) (sym (map-append (λ (e : OutputEntry). e.line) deck.outputs ((record { line = number; card = card }) ∷ [])))
    (behind low before (output_lines deck.outputs) number number refl h)))

-- ---- all lines

step_order : (deck : Deck) (place : Place) (number : ℕ) (line : List ℕ) → InOrder number deck place → IfOk (step deck place number line) (Orders (number + 1))
step_order deck Begin number line h = placed deck (number + 1) (begin_place number line) (begin_order deck number line h)
step_order deck (First seen) number line h = first_order deck number line seen h
step_order deck Second number line h = second_order deck number line h
step_order deck Start number line h = start_order deck number line h
step_order deck (Control at) number line h = control_order deck at number line h
step_order deck (Branches wide) number line h = branch_order deck number line wide h
step_order deck (Points group) number line h = point_order deck number line group h
step_order deck (Waiting card wide) number line h = waiting_order deck number line card wide h
step_order deck (Third zero' positive wide) number line h = third_order deck number line zero' positive wide h
step_order deck Switches number line h = switch_order deck number line h
step_order deck Sources number line h = source_order deck number line h
step_order deck Outputs number line h = output_order deck number line h
step_order deck (After seen) number line h = placed deck (number + 1) (after_place number line seen) (after_order deck number line seen (passed deck (After seen) number h))

advance_order : (deck : Deck) (place : Place) (number : ℕ) (line : List ℕ) → InOrder number deck place → IfOk (advance deck place number line) (Orders (number + 1))
advance_order deck place number line h = if_ok (Orders (number + 1)) (is_comment line) (Ok (deck, place)) (step deck place number line) (passed deck place number h) (step_order deck place number line h)

holds : {A : Type 0} (P : A → Type 0) (r : Result A Bad) (x : A) → IfOk r P → r ≡ Ok x → P x
holds P (Ok y) x h e = let same : y ≡ x = cc in subst P same h
holds P (Err bad) x h e = absurd (cc)

walk_order : (lines : List (List ℕ)) (number : ℕ) (deck : Deck) (place : Place) → InOrder number deck place → IfOk (walk number deck place lines) (Orders (number + length lines))
walk_order [] number deck place h = subst (λ n. InOrder n deck place) (omega arith) h
walk_order (line ∷ lines) number deck place h =
    let more : number + 1 + length lines ≡ number + suc (length lines) = omega arith in
    go_ok (Orders (number + suc (length lines))) _ (advance deck place number line) (λ next is.
    subst (λ n. IfOk (walk (number + 1) next.0 next.1 lines) (Orders n)) more
    (walk_order lines (number + 1) next.0 next.1 (holds (Orders (number + 1)) (advance deck place number line) next (advance_order deck place number line h) is)))

nothing_more : (xs : List ℕ) → xs ++ [] ++ [] ++ [] ≡ xs
nothing_more xs = append-nil (xs ++ [] ++ []) ∙ append-nil (xs ++ []) ∙ append-nil xs

branch_rises : (deck : Deck) (pending : List ℕ) (number : ℕ) → IsAmongBranches deck pending number → Rises (deck.second + 1) (front_lines deck ++ pending ++ switch_lines deck.switches ++ source_lines deck.sources ++ output_lines deck.outputs) number
branch_rises deck pending number h =
    rw (h.early.switches, h.early.sources, h.early.outputs) (subst (λ ls. Rises (deck.second + 1) ls number) (sym (nothing_more (front_lines deck ++ pending))) h.rises)

head_rises : (deck : Deck) (number : ℕ) → IsHead deck number → Rises (deck.second + 1) (front_lines deck ++ [] ++ switch_lines deck.switches ++ source_lines deck.sources ++ output_lines deck.outputs) number
head_rises deck number h = rw (h.control, h.branches, h.early.switches, h.early.sources, h.early.outputs) h.second

no_pending : (deck : Deck) (number : ℕ) → IsAmongOutputs deck number → Rises (deck.second + 1) (front_lines deck ++ [] ++ switch_lines deck.switches ++ source_lines deck.sources ++ output_lines deck.outputs) number
no_pending deck number h = rw (append-nil (front_lines deck)) h

blocks_rise : (deck : Deck) (pending : List ℕ) (number : ℕ) → IsAmongBlocks deck pending number → Rises (deck.second + 1) (front_lines deck ++ pending ++ switch_lines deck.switches ++ source_lines deck.sources ++ output_lines deck.outputs) number
blocks_rise deck pending number h = rw (h.signals, h.extras, h.outputs, h.branches, h.early.switches, h.early.sources, h.early.outputs) (simp append-nil h.rises)

signals_rise : (deck : Deck) (number : ℕ) → IsAmongSignals deck number → Rises (deck.second + 1) (front_lines deck ++ [] ++ switch_lines deck.switches ++ source_lines deck.sources ++ output_lines deck.outputs) number
signals_rise deck number h = rw (h.extras, h.outputs, h.branches, h.early.switches, h.early.sources, h.early.outputs) (simp append-nil h.rises)

extras_rise : (deck : Deck) (pending : List ℕ) (number : ℕ) → IsAmongExtras deck pending number → Rises (deck.second + 1) (front_lines deck ++ pending ++ switch_lines deck.switches ++ source_lines deck.sources ++ output_lines deck.outputs) number
extras_rise deck pending number h = rw (h.outputs, h.branches, h.early.switches, h.early.sources, h.early.outputs) (simp append-nil h.rises)

control_rises : (deck : Deck) (at : ControlPlace) (number : ℕ) → IsAmongControl number deck at → Rises (deck.second + 1) (card_lines deck (Control at)) number
control_rises deck Blocks number h = blocks_rise deck [] number h
control_rises deck (Numerator card) number h = blocks_rise deck (card.line ∷ []) number h
control_rises deck (Denominator card top line) number h = blocks_rise deck (card.line ∷ []) number h
control_rises deck TacsSources number h = signals_rise deck number h
control_rises deck Extras number h = extras_rise deck [] number h
control_rises deck (DevicePoints group) number h = extras_rise deck (group.card.line ∷ []) number h
control_rises deck TacsOutputs number h = branch_rises deck [] number (branches_next deck number h)
control_rises deck Initial number h = branch_rises deck [] number (branches_next deck number h)

all_rise : (deck : Deck) (place : Place) (number : ℕ) → InOrder number deck place → Rises (deck.second + 1) (card_lines deck place) number
all_rise deck Begin number h = head_rises deck number h
all_rise deck (First seen) number h = head_rises deck number h
all_rise deck Second number h = head_rises deck number h
all_rise deck Start number h = head_rises deck number h
all_rise deck (Control at) number h = control_rises deck at number h
all_rise deck (Branches wide) number h = branch_rises deck [] number h
all_rise deck (Points group) number h = branch_rises deck (group.card.line ∷ []) number h
all_rise deck (Waiting card wide) number h = branch_rises deck (card.line ∷ []) number h
all_rise deck (Third zero' positive wide) number h = branch_rises deck (zero'.line ∷ positive.line ∷ []) number h
all_rise deck Switches number h =
    no_pending deck number (rw (h.sources, h.outputs) (subst (λ ls. Rises (deck.second + 1) ls number) (sym (append-nil (front_lines deck ++ switch_lines deck.switches ++ []) ∙ append-nil (front_lines deck ++ switch_lines deck.switches))) h.rises))
all_rise deck Sources number h =
    no_pending deck number (rw h.outputs (subst (λ ls. Rises (deck.second + 1) ls number) (sym (append-nil (front_lines deck ++ switch_lines deck.switches ++ source_lines deck.sources))) h.rises))
all_rise deck Outputs number h = no_pending deck number h
all_rise deck (After seen) number h = no_pending deck number h

pub cards_rise : (lines : List (List ℕ)) (deck : Deck) (place : Place) → walk 1 empty_deck Begin lines ≡ Ok (deck, place) → Rises (deck.second + 1) (card_lines deck place) (length lines + 1)
cards_rise lines deck place e =
    let start : IsHead empty_deck 1 = record { early = record { switches = refl; sources = refl; outputs = refl }; control = refl; branches = refl; second = omega arith } in
    let end = holds (Orders (1 + length lines)) (walk 1 empty_deck Begin lines) (deck, place) (walk_order lines 1 empty_deck Begin start) e in
    subst (λ n. Rises (deck.second + 1) (card_lines deck place) n) (omega arith) (all_rise deck place (1 + length lines) end)
