-- While the walk is in one section, those behind it have no card yet.
use Rattle.std.proofs.Common.{◌≡◌, subst, refl, ℕ, ◌+◌, ℤ, Bool, true, false, List, [], ◌∷◌, ◌++◌, length, Option, Some, None, Result, Ok, Err}
use Rattle.std.specs.List.{starts_with}
use Rattle.std.specs.Prelude.{IfOk, if◌then◌else◌, nat_eq, codes, replicate, pos, ◌==◌}
use Rattle.emtp_fix.specs.Chain.{unless}
use Rattle.emtp_card.specs.Fault.{judge}
use Rattle.emtp_card.specs.Lines.{is_comment, is_section_end}
use Rattle.emtp_card.specs.declared.reason.Bad.{Bad}
use Rattle.emtp_card.specs.declared.reason.Why.{Why}
use Rattle.emtp_case.specs.declared.branch.Point.{Point}
use Rattle.emtp_netcards.specs.BranchCard.{branch_card, kind_field}
use Rattle.emtp_netcards.specs.OutputCard.{output_card}
use Rattle.emtp_netcards.specs.PointCard.{next_point}
use Rattle.emtp_netcards.specs.RunCards.{first_card, second_card, tolerance_card}
use Rattle.emtp_netcards.specs.SourceCard.{source_card}
use Rattle.emtp_netcards.specs.SwitchCard.{switch_card}
use Rattle.emtp_netcards.specs.VintageCard.{is_vintage, vintage_card}
use Rattle.emtp_netcards.specs.declared.branch_card.BranchCard.{BranchCard}
use Rattle.emtp_netcards.specs.declared.branch_card.BranchKind.{BranchKind}
use Rattle.emtp_netcards.specs.declared.branch_card.BranchKind.TheVariants.{Line as LineKind, Reactor as ReactorKind, Resistor as ResistorKind, Second as SecondKind, Series as SeriesKind, Third as ThirdKind}
use Rattle.emtp_netcards.specs.declared.branch_card.BranchValues.{BranchValues}
use Rattle.emtp_netcards.specs.declared.branch_card.BranchValues.TheVariants.{Copied as CopiedCard, Line as LineCard, Lumped as LumpedCard, Reactor as ReactorCard, Resistor as ResistorCard, Second as SecondCard, Third as ThirdCard}
use Rattle.emtp_netcards.specs.declared.output_card.OutputCard.{OutputCard}
use Rattle.emtp_netcards.specs.declared.run_cards.FirstCard.{FirstCard}
use Rattle.emtp_netcards.specs.declared.source_card.SourceCard.{SourceCard}
use Rattle.emtp_netcards.specs.declared.switch_card.SwitchCard.{SwitchCard}
use Rattle.emtp_taccards.specs.BlockCard.{block_card}
use Rattle.emtp_taccards.specs.ExtraCard.{extra_card}
use Rattle.emtp_taccards.specs.PolynomialCard.{polynomial_card}
use Rattle.emtp_taccards.specs.TacsOutputCard.{tacs_output_card}
use Rattle.emtp_taccards.specs.TacsSourceCard.{tacs_source_card}
use Rattle.emtp_taccards.specs.declared.block_card.BlockCard.{BlockCard}
use Rattle.emtp_taccards.specs.declared.extra_card.ExtraCard.{ExtraCard}
use Rattle.emtp_taccards.specs.declared.extra_card.ExtraCard.TheVariants.{Device as DeviceOf, Formula as FormulaOf}
use Rattle.emtp_walk.proofs.Rising.{go_ok, if_ok, unless_ok}
use Rattle.emtp_walk.specs.Answer.{go_on}
use Rattle.emtp_walk.specs.Coefficients.{divided_bad}
use Rattle.emtp_walk.specs.ControlSteps.{block_step, control_step, denominator_step, device_point_or_end, device_point_step, device_scale, extra_step, initial_place, keep_block, keep_extra, numerator_step, points_follow, tacs_output_step, tacs_source_step, take_block, take_extra, with_denominator, with_tacs_output, with_tacs_source}
use Rattle.emtp_walk.specs.LineRead.{Read, order_fault, place_of}
use Rattle.emtp_walk.specs.Walk.{advance, after_place, begin_fault, begin_place, branch_step, card_step, empty_deck, first_step, is_phase, is_second, output_step, point_or_end, point_step, scale_of, second_step, source_step, start_step, step, switch_step, take_branch, take_copied, take_third, take_values, third_by, third_step, times_step, tolerance_step, vintage_or, waiting_step, walk, with_card}
use Rattle.emtp_walk.specs.declared.control_cards.BlockEntry.{BlockEntry}
use Rattle.emtp_walk.specs.declared.control_cards.ControlPlace.{ControlPlace}
use Rattle.emtp_walk.specs.declared.control_cards.ControlPlace.TheVariants.{Blocks, Denominator, DevicePoints, Extras, Initial, Numerator, TacsOutputs, TacsSources}
use Rattle.emtp_walk.specs.declared.control_cards.DeviceGroup.{DeviceGroup}
use Rattle.emtp_walk.specs.declared.control_cards.ExtraEntry.TheVariants.{Device as DeviceEntry}
use Rattle.emtp_walk.specs.declared.deck.Deck.{Deck}
use Rattle.emtp_walk.specs.declared.deck.Group.{Group}
use Rattle.emtp_walk.specs.declared.deck.Place.{Place}
use Rattle.emtp_walk.specs.declared.deck.Place.TheVariants.{After, Begin, Branches, Control, First, Outputs, Points, Second, Sources, Start, Switches, Third, Waiting}

-- no card of the sections behind the branches, behind the control, and behind the control's supplemental cards
abbrev pub HasNoSwitches : Deck → Type 0
HasNoSwitches deck = (deck.switches ≡ []) × (deck.sources ≡ []) × (deck.outputs ≡ [])

abbrev pub HasNoBranches : Deck → Type 0
HasNoBranches deck = (deck.branches ≡ []) × (HasNoSwitches deck)

abbrev pub HasNoOutputs : Deck → Type 0
HasNoOutputs deck = (deck.control.outputs ≡ []) × (HasNoBranches deck)

abbrev pub IsControlUnbegun : Deck → ControlPlace → Type 0
IsControlUnbegun deck Blocks = HasNoOutputs deck
IsControlUnbegun deck (Numerator card) = HasNoOutputs deck
IsControlUnbegun deck (Denominator card top line) = HasNoOutputs deck
IsControlUnbegun deck TacsSources = HasNoOutputs deck
IsControlUnbegun deck Extras = HasNoOutputs deck
IsControlUnbegun deck (DevicePoints group) = HasNoOutputs deck
IsControlUnbegun deck TacsOutputs = HasNoBranches deck
IsControlUnbegun deck Initial = HasNoBranches deck

abbrev pub IsUnbegun : Deck → Place → Type 0
IsUnbegun deck Begin = HasNoOutputs deck
IsUnbegun deck (First seen) = HasNoOutputs deck
IsUnbegun deck Second = HasNoOutputs deck
IsUnbegun deck Start = HasNoOutputs deck
IsUnbegun deck (Control at) = IsControlUnbegun deck at
IsUnbegun deck (Branches wide) = HasNoSwitches deck
IsUnbegun deck (Points group) = HasNoSwitches deck
IsUnbegun deck (Waiting card wide) = HasNoSwitches deck
IsUnbegun deck (Third zero' positive wide) = HasNoSwitches deck
IsUnbegun deck Switches = Unit {0}
IsUnbegun deck Sources = Unit {0}
IsUnbegun deck Outputs = Unit {0}
IsUnbegun deck (After seen) = Unit {0}

abbrev pub Leads : Deck × Place → Type 0
Leads next = IsUnbegun next.0 next.1

either : (b : Bool) (x y : Deck × Place) → Leads x → Leads y → Leads (if b then x else y)
either true x y h k = h
either false x y h k = k

placed : (deck : Deck) (r : Result Place Bad) → IfOk r (λ place. IsUnbegun deck place) → IfOk (place_of deck r) Leads
placed deck (Ok place) h = h
placed deck (Err bad) h = tt

-- ---- in front of the sections

begin_leads : (deck : Deck) (number : ℕ) (line : List ℕ) → HasNoOutputs deck → IfOk (begin_place number line) (λ place. IsUnbegun deck place)
unfolding begin_place
begin_leads deck number line h =
    if_ok (λ (place : Place). IsUnbegun deck place) (is_section_end line) (Ok Begin) (unless (begin_fault number line) (λ bad. bad) (Ok (First false))) h
    (unless_ok (λ (place : Place). IsUnbegun deck place) (begin_fault number line) (First false) h)

first_leads : (deck : Deck) (number : ℕ) (line : List ℕ) (seen : Bool) → HasNoOutputs deck → IfOk (first_step deck number line seen) Leads
unfolding first_step tolerance_step times_step
first_leads deck number line seen h =
    let kept : ℤ → Read = λ z. Ok (record deck { run = record deck.run { tolerance = z } }, First true) in
    let timed : FirstCard → Read = λ card. Ok (record deck { run = record deck.run { dt = card.dt; steps = card.steps } }, Second) in
    if_ok Leads (starts_with nat_eq line (codes "RESIDUAL TOLERANCE")) (tolerance_step deck number line seen) (times_step deck number line)
    (if_ok Leads seen (unless (order_fault number line) (λ bad. bad) (Ok (deck, First true))) (go_on kept (tolerance_card number line)) (unless_ok Leads (order_fault number line) (deck, First true) h)
    (go_ok Leads kept (tolerance_card number line) (λ z is. h)))
    (go_ok Leads timed (first_card number line) (λ card is. h))

second_leads : (deck : Deck) (number : ℕ) (line : List ℕ) → HasNoOutputs deck → IfOk (second_step deck number line) Leads
unfolding second_step
second_leads deck number line h =
    let f : ℕ → Read = λ every. Ok (record deck { run = record deck.run { every = every }; second = number }, Start) in
    go_ok Leads f (second_card number line) (λ every is. h)

-- ---- the control

block_leads : (deck : Deck) (number : ℕ) (line : List ℕ) → HasNoOutputs deck → IfOk (block_step deck number line) Leads
unfolding block_step
block_leads deck number line h =
    let f : BlockCard → Read = λ card. Ok (take_block deck card) in
    if_ok Leads (is_section_end line) (Ok (deck, Control TacsSources)) (go_on f (block_card number line)) h
    (go_ok Leads f (block_card number line) (λ card is.
    either (card.order == 0) (keep_block deck (record { card = card; top = replicate 8 (pos 0); bottom = replicate 8 (pos 0) })) (deck, Control (Numerator card)) h h))

denominator_leads : (deck : Deck) (number : ℕ) (line : List ℕ) (card : BlockCard) (top : List ℤ) (top_line : ℕ) → HasNoOutputs deck → IfOk (denominator_step deck number line card top top_line) Leads
unfolding denominator_step
denominator_leads deck number line card top top_line h =
    let f : List ℤ → Read = λ bottom. with_denominator deck number (record { card = card; top = top; bottom = bottom }) top_line in
    go_ok Leads f (polynomial_card number line card.order deck.run.dt) (λ bottom is.
    let e : BlockEntry = record { card = card; top = top; bottom = bottom } in
    unless_ok Leads (divided_bad deck.run.dt e top_line number) (keep_block deck e) h)

source_leads : (deck : Deck) (number : ℕ) (line : List ℕ) → HasNoOutputs deck → IfOk (tacs_source_step deck number line) Leads
unfolding tacs_source_step
source_leads deck number line h =
    let f : SourceCard → Read = λ card. Ok (with_tacs_source deck card, Control TacsSources) in
    if_ok Leads (is_section_end line) (Ok (deck, Control Extras)) (go_on f (tacs_source_card number line)) h (go_ok Leads f (tacs_source_card number line) (λ card is. h))

extra_leads : (deck : Deck) (number : ℕ) (line : List ℕ) → HasNoOutputs deck → IfOk (extra_step deck number line) Leads
unfolding extra_step
extra_leads deck number line h =
    let f : ExtraCard → Read = λ card. Ok (take_extra deck card) in
    if_ok Leads (is_section_end line) (Ok (deck, Control TacsOutputs)) (go_on f (extra_card number line)) h.1 (go_ok Leads f (extra_card number line) (λ card is. taken card))
  where
    taken : (card : ExtraCard) → Leads (take_extra deck card)
    taken (DeviceOf card) =
        either (points_follow card.code) (deck, Control (DevicePoints (record { card = card; first = length deck.points; count = 0; before = None }))) (keep_extra deck (DeviceEntry card 0 0)) h h
    taken (FormulaOf card) = h

device_point_leads : (deck : Deck) (number : ℕ) (line : List ℕ) (group : DeviceGroup) → HasNoOutputs deck → IfOk (device_point_step deck number line group) Leads
unfolding device_point_step
device_point_leads deck number line group h =
    let f : Option Point → Read = λ point. Ok (device_point_or_end deck group point) in
    go_ok Leads f (next_point number line (device_scale group.card.code) group.before group.count deck.run.dt) (λ point is. one point)
  where
    one : (point : Option Point) → Leads (device_point_or_end deck group point)
    one (Some point) = h
    one None = h

tacs_output_leads : (deck : Deck) (number : ℕ) (line : List ℕ) → HasNoBranches deck → IfOk (tacs_output_step deck number line) Leads
unfolding tacs_output_step
tacs_output_leads deck number line h =
    let f : List (Option (List ℕ)) → Read = λ names. Ok (with_tacs_output deck number names, Control TacsOutputs) in
    if_ok Leads (is_section_end line) (Ok (deck, Control Initial)) (go_on f (tacs_output_card number line)) h (go_ok Leads f (tacs_output_card number line) (λ names is. h))

initial_leads : (deck : Deck) (number : ℕ) (line : List ℕ) → HasNoBranches deck → IfOk (initial_place number line) (λ place. IsUnbegun deck place)
unfolding initial_place
initial_leads deck number line h =
    if_ok (λ (place : Place). IsUnbegun deck place) (is_section_end line) (Ok (Branches false)) (unless (order_fault number line) (λ bad. bad) (Ok (Branches false))) h.1
    (unless_ok (λ (place : Place). IsUnbegun deck place) (order_fault number line) (Branches false) h.1)

control_leads : (deck : Deck) (at : ControlPlace) (number : ℕ) (line : List ℕ) → IsControlUnbegun deck at → IfOk (control_step deck number line at) Leads
unfolding numerator_step
control_leads deck Blocks number line h = block_leads deck number line h
control_leads deck (Numerator card) number line h = go_ok Leads _ (polynomial_card number line card.order deck.run.dt) (λ top is. h)
control_leads deck (Denominator card top top_line) number line h = denominator_leads deck number line card top top_line h
control_leads deck TacsSources number line h = source_leads deck number line h
control_leads deck Extras number line h = extra_leads deck number line h
control_leads deck (DevicePoints group) number line h = device_point_leads deck number line group h
control_leads deck TacsOutputs number line h = tacs_output_leads deck number line h
control_leads deck Initial number line h = placed deck (initial_place number line) (initial_leads deck number line h)

-- ---- branches

copied_leads : (deck : Deck) (card : BranchCard) (wide : Bool) (kind : BranchKind) → HasNoSwitches deck → Leads (take_copied deck card wide kind)
copied_leads deck card wide LineKind h = h
copied_leads deck card wide SeriesKind h = h
copied_leads deck card wide SecondKind h = h
copied_leads deck card wide ThirdKind h = h
copied_leads deck card wide ReactorKind h = h
copied_leads deck card wide ResistorKind h = h

values_lead : (deck : Deck) (card : BranchCard) (wide : Bool) (values : BranchValues) → HasNoSwitches deck → Leads (take_values deck card wide values)
values_lead deck card wide (LumpedCard r l c) h = h
values_lead deck card wide (LineCard zc r delay) h = h
values_lead deck card wide (SecondCard zc r delay) h = h
values_lead deck card wide ThirdCard h = h
values_lead deck card wide ReactorCard h = h
values_lead deck card wide ResistorCard h = h
values_lead deck card wide (CopiedCard kind a b) h = copied_leads deck card wide kind h

card_leads : (deck : Deck) (number : ℕ) (line : List ℕ) (wide : Bool) → HasNoSwitches deck → IfOk (card_step deck number line wide) Leads
unfolding card_step
card_leads deck number line wide h =
    let f : BranchCard → Read = λ card. Ok (take_branch deck card wide) in
    if_ok Leads (is_phase (kind_field line)) (unless (order_fault number line) (λ bad. bad) (Ok (deck, Branches wide))) (go_on f (branch_card number line deck.run.dt wide))
    (unless_ok Leads (order_fault number line) (deck, Branches wide) h)
    (go_ok Leads f (branch_card number line deck.run.dt wide) (λ card is. values_lead deck card wide card.values h))

vintage_leads : (deck : Deck) (vintage : Option (Result Bool Bad)) (card : Read) → HasNoSwitches deck → IfOk card Leads → IfOk (vintage_or deck vintage card) Leads
vintage_leads deck None card h k = k
vintage_leads deck (Some width) card h k = go_ok Leads _ width (λ wide is. h)

branch_leads : (deck : Deck) (number : ℕ) (line : List ℕ) (wide : Bool) → HasNoSwitches deck → IfOk (branch_step deck number line wide) Leads
unfolding branch_step
branch_leads deck number line wide h =
    if_ok Leads (is_section_end line) (Ok (deck, Switches)) (vintage_or deck (vintage_card number line) (card_step deck number line wide)) tt
    (vintage_leads deck (vintage_card number line) (card_step deck number line wide) h (card_leads deck number line wide h))

start_leads : (deck : Deck) (number : ℕ) (line : List ℕ) → HasNoOutputs deck → IfOk (start_step deck number line) Leads
unfolding start_step
start_leads deck number line h =
    let control : Read = unless (judge number line None) (λ bad. bad) (Ok (deck, Control Blocks)) in
    if_ok Leads (starts_with nat_eq line (codes "TACS HYBRID")) control (branch_step deck number line false)
    (unless_ok Leads (judge number line None) (deck, Control Blocks) h)
    (branch_leads deck number line false h.1.1)

waiting_leads : (deck : Deck) (number : ℕ) (line : List ℕ) (card : BranchCard) (wide : Bool) → HasNoSwitches deck → IfOk (waiting_step deck number line card wide) Leads
unfolding waiting_step
waiting_leads deck number line card wide h =
    let f : BranchCard → Read = λ positive. Ok (deck, Third card positive wide) in
    if_ok Leads (is_second (kind_field line)) (go_on f (branch_card number line deck.run.dt wide)) (branch_step (with_card deck card) number line wide)
    (go_ok Leads f (branch_card number line deck.run.dt wide) (λ positive is. h))
    (branch_leads (with_card deck card) number line wide h)

taken_third : (deck : Deck) (number : ℕ) (line : List ℕ) (zero' positive : BranchCard) (wide : Bool) → HasNoSwitches deck → IfOk (take_third deck number line zero' positive wide) Leads
taken_third deck number line zero' positive wide h = go_ok Leads _ (branch_card number line deck.run.dt wide) (λ third is. h)

kind_leads : (deck : Deck) (number : ℕ) (line : List ℕ) (zero' positive : BranchCard) (wide : Bool) (kind : Result BranchKind Why) → HasNoSwitches deck → IfOk (third_by deck number line zero' positive wide kind) Leads
kind_leads deck number line zero' positive wide (Ok SeriesKind) h = unless_ok Leads (order_fault number line) (deck, Branches wide) h
kind_leads deck number line zero' positive wide (Ok LineKind) h = unless_ok Leads (order_fault number line) (deck, Branches wide) h
kind_leads deck number line zero' positive wide (Ok SecondKind) h = unless_ok Leads (order_fault number line) (deck, Branches wide) h
kind_leads deck number line zero' positive wide (Ok ThirdKind) h = taken_third deck number line zero' positive wide h
kind_leads deck number line zero' positive wide (Ok ReactorKind) h = unless_ok Leads (order_fault number line) (deck, Branches wide) h
kind_leads deck number line zero' positive wide (Ok ResistorKind) h = unless_ok Leads (order_fault number line) (deck, Branches wide) h
kind_leads deck number line zero' positive wide (Err why) h =
    if_ok Leads (is_vintage line) (unless (order_fault number line) (λ bad. bad) (Ok (deck, Branches wide))) (take_third deck number line zero' positive wide)
    (unless_ok Leads (order_fault number line) (deck, Branches wide) h) (taken_third deck number line zero' positive wide h)

third_leads : (deck : Deck) (number : ℕ) (line : List ℕ) (zero' positive : BranchCard) (wide : Bool) → HasNoSwitches deck → IfOk (third_step deck number line zero' positive wide) Leads
unfolding third_step
third_leads deck number line zero' positive wide h =
    if_ok Leads (is_section_end line) (Err _) (third_by deck number line zero' positive wide (kind_field line)) tt (kind_leads deck number line zero' positive wide (kind_field line) h)

point_leads : (deck : Deck) (number : ℕ) (line : List ℕ) (group : Group) → HasNoSwitches deck → IfOk (point_step deck number line group) Leads
unfolding point_step
point_leads deck number line group h =
    let f : Option Point → Read = λ point. Ok (point_or_end deck group point) in
    go_ok Leads f (next_point number line (scale_of group) group.before group.count deck.run.dt) (λ point is. one point)
  where
    one : (point : Option Point) → Leads (point_or_end deck group point)
    one (Some point) = h
    one None = h

-- ---- switches, sources, outputs

switch_leads : (deck : Deck) (number : ℕ) (line : List ℕ) → IfOk (switch_step deck number line) Leads
unfolding switch_step
switch_leads deck number line =
    let f : SwitchCard → Read = λ card. Ok (record deck { switches = deck.switches ++ card ∷ [] }, Switches) in
    if_ok Leads (is_section_end line) (Ok (deck, Sources)) (go_on f (switch_card number line)) tt (go_ok Leads f (switch_card number line) (λ card is. tt))

signal_leads : (deck : Deck) (number : ℕ) (line : List ℕ) → IfOk (source_step deck number line) Leads
unfolding source_step
signal_leads deck number line =
    let f : SourceCard → Read = λ card. Ok (record deck { sources = deck.sources ++ card ∷ [] }, Sources) in
    if_ok Leads (is_section_end line) (Ok (deck, Outputs)) (go_on f (source_card number line)) tt (go_ok Leads f (source_card number line) (λ card is. tt))

output_leads : (deck : Deck) (number : ℕ) (line : List ℕ) → IfOk (output_step deck number line) Leads
unfolding output_step
output_leads deck number line =
    let f : OutputCard → Read = λ card. Ok (record deck { outputs = deck.outputs ++ (record { line = number; card = card }) ∷ [] }, Outputs) in
    if_ok Leads (is_section_end line) (Ok (deck, After false)) (go_on f (output_card number line)) tt (go_ok Leads f (output_card number line) (λ card is. tt))

after_leads : (deck : Deck) (number : ℕ) (line : List ℕ) (seen : Bool) → IfOk (after_place number line seen) (λ place. IsUnbegun deck place)
unfolding after_place
after_leads deck number line seen =
    if_ok (λ (place : Place). IsUnbegun deck place) (is_section_end line) (Ok (After seen)) (unless (if seen then order_fault number line else begin_fault number line) (λ bad. bad) (Ok (After true))) tt
    (unless_ok (λ (place : Place). IsUnbegun deck place) (if seen then order_fault number line else begin_fault number line) (After true) tt)

-- ---- all lines

step_leads : (deck : Deck) (place : Place) (number : ℕ) (line : List ℕ) → IsUnbegun deck place → IfOk (step deck place number line) Leads
step_leads deck Begin number line h = placed deck (begin_place number line) (begin_leads deck number line h)
step_leads deck (First seen) number line h = first_leads deck number line seen h
step_leads deck Second number line h = second_leads deck number line h
step_leads deck Start number line h = start_leads deck number line h
step_leads deck (Control at) number line h = control_leads deck at number line h
step_leads deck (Branches wide) number line h = branch_leads deck number line wide h
step_leads deck (Points group) number line h = point_leads deck number line group h
step_leads deck (Waiting card wide) number line h = waiting_leads deck number line card wide h
step_leads deck (Third zero' positive wide) number line h = third_leads deck number line zero' positive wide h
step_leads deck Switches number line h = switch_leads deck number line
step_leads deck Sources number line h = signal_leads deck number line
step_leads deck Outputs number line h = output_leads deck number line
step_leads deck (After seen) number line h = placed deck (after_place number line seen) (after_leads deck number line seen)

holds : (r : Read) (x : Deck × Place) → IfOk r Leads → r ≡ Ok x → Leads x
holds (Ok y) x h e = let same : y ≡ x = cc in subst Leads same h
holds (Err bad) x h e = absurd (cc)

walk_leads : (lines : List (List ℕ)) (number : ℕ) (deck : Deck) (place : Place) → IsUnbegun deck place → IfOk (walk number deck place lines) Leads
walk_leads [] number deck place h = h
walk_leads (line ∷ lines) number deck place h =
    let stepped = if_ok Leads (is_comment line) (Ok (deck, place)) (step deck place number line) h (step_leads deck place number line h) in
    go_ok Leads _ (advance deck place number line) (λ next is. walk_leads lines (number + 1) next.0 next.1 (holds (advance deck place number line) next stepped is))

pub unbegun : (lines : List (List ℕ)) (deck : Deck) (place : Place) → walk 1 empty_deck Begin lines ≡ Ok (deck, place) → IsUnbegun deck place
unbegun lines deck place e =
    holds (walk 1 empty_deck Begin lines) (deck, place) (walk_leads lines 1 empty_deck Begin (refl, (refl, (refl, refl, refl)))) e
