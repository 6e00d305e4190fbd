-- A walk keeps what the cards do, wherever it comes.
use Rattle.std.proofs.Common.{◌≡◌, ◌≢◌, ◌∙◌, ap, sym, subst, refl, ℕ, ◌+◌, ◌≤◌, ◌==◌, nat_eq, ℤ, pos, Bool, true, false, List, [], ◌∷◌, ◌++◌, length, replicate, codes, All, Option, Some, None, Result, Ok, Err, IfOk, if◌then◌else◌, length-drop, arith}
use Rattle.std.specs.List.{starts_with}
use Rattle.std.specs.Ordering.{int_eq}
use Rattle.std.proofs.lemmas.Bool.Decides.{nat_tests}
use Rattle.std.proofs.lemmas.Int.{ints}
use Rattle.std.proofs.lemmas.List.Elements.{All-nil}
use Rattle.emtp_fix.specs.Chain.{unless}
use Rattle.emtp_card.specs.Fault.{judge}
use Rattle.emtp_card.specs.Lines.{is_comment, is_section_end}
use Rattle.emtp_card.specs.declared.reason.Bad.{Bad}
use Rattle.emtp_card.specs.declared.reason.Why.{Why}
use Rattle.emtp_case.specs.Control.{power_of}
use Rattle.emtp_case.specs.Sums.{sum_upto}
use Rattle.emtp_case.specs.declared.branch.Point.{Point}
use Rattle.emtp_case.specs.declared.run_data.RunData.{RunData}
use Rattle.emtp_case.specs.held.RunData.{IsRun}
use Rattle.emtp_expr.specs.Parsing.{expression_of}
use Rattle.emtp_netcards.specs.BranchCard.{branch_card, kind_field}
use Rattle.emtp_netcards.specs.PointCard.{fewest_of, next_point}
use Rattle.emtp_netcards.specs.RunCards.{first_card, second_card, tolerance_card}
use Rattle.emtp_netcards.specs.SourceCard.{source_card}
use Rattle.emtp_netcards.specs.SwitchCard.{switch_card}
use Rattle.emtp_netcards.specs.OutputCard.{output_card}
use Rattle.emtp_netcards.specs.VintageCard.{is_vintage, vintage_card}
use Rattle.emtp_netcards.specs.held.BranchCard.{HasNumbers, kind_of_values}
use Rattle.emtp_netcards.specs.held.Fields.{IsSmall}
use Rattle.emtp_netcards.specs.held.SourceCard.{HasSourceCardNumbers}
use Rattle.emtp_netcards.specs.held.SwitchCard.{HasSwitchNumbers}
use Rattle.emtp_netcards.specs.declared.branch_card.BranchCard.{BranchCard}
use Rattle.emtp_netcards.specs.declared.branch_card.BranchKind.{BranchKind}
use Rattle.emtp_netcards.specs.declared.branch_card.BranchKind.TheVariants.{Line as LineKind, Reactor as ReactorKind, Resistor as ResistorKind, Second as SecondKind, Series as SeriesKind, Third as ThirdKind}
use Rattle.emtp_netcards.specs.declared.branch_card.BranchValues.{BranchValues}
use Rattle.emtp_netcards.specs.declared.branch_card.BranchValues.TheVariants.{Copied as CopiedCard, Line as LineCard, Lumped as LumpedCard, Reactor as ReactorCard, Resistor as ResistorCard, Second as SecondCard, Third as ThirdCard}
use Rattle.emtp_netcards.specs.declared.output_card.OutputCard.{OutputCard}
use Rattle.emtp_netcards.specs.declared.source_card.SourceCard.{SourceCard}
use Rattle.emtp_netcards.specs.declared.switch_card.SwitchCard.{SwitchCard}
use Rattle.emtp_netcards.proofs.BranchRanges.{branch_keeps, branch_kind_is}
use Rattle.emtp_netcards.proofs.PointRanges.{IsNextPoint, point_keeps}
use Rattle.emtp_netcards.proofs.RunRanges.{first_keeps, second_keeps, tolerance_keeps}
use Rattle.emtp_netcards.proofs.SourceRanges.{source_keeps}
use Rattle.emtp_netcards.proofs.SwitchRanges.{switch_keeps}
use Rattle.emtp_taccards.specs.BlockCard.{block_card}
use Rattle.emtp_taccards.specs.DeviceCard.{device_card}
use Rattle.emtp_taccards.specs.ExtraCard.{as_device, as_formula, extra_card, is_formula}
use Rattle.emtp_taccards.specs.FormulaCard.{expression_text, formula_card}
use Rattle.emtp_taccards.specs.PolynomialCard.{polynomial_card}
use Rattle.emtp_taccards.specs.TacsOutputCard.{tacs_output_card}
use Rattle.emtp_taccards.specs.TacsSourceCard.{tacs_source_card}
use Rattle.emtp_taccards.specs.declared.block_card.BlockCard.{BlockCard}
use Rattle.emtp_taccards.specs.declared.device_card.DeviceCard.{DeviceCard}
use Rattle.emtp_taccards.specs.declared.extra_card.ExtraCard.{ExtraCard}
use Rattle.emtp_taccards.specs.declared.extra_card.ExtraCard.TheVariants.{Device as DeviceOf, Formula as FormulaOf}
use Rattle.emtp_taccards.specs.declared.formula_card.FormulaCard.{FormulaCard}
use Rattle.emtp_taccards.proofs.CardRanges.{block_keeps, device_keeps, formula_keeps, nonzero, polynomial_keeps, tacs_source_keeps}
use Rattle.emtp_taccards.proofs.Coefficients.{eight}
use Rattle.emtp_walk.specs.Answer.{go_on}
use Rattle.emtp_walk.specs.Coefficients.{divided_bad, divided_by, range_bad}
use Rattle.emtp_walk.specs.ControlSteps.{block_step, control_step, denominator_step, device_point_or_end, device_point_step, device_scale, extra_step, initial_place, keep_block, keep_extra, numerator_step, points_follow as device_points_follow, tacs_output_step, tacs_source_step, take_block, take_device, take_extra, with_tacs_output, with_tacs_source}
use Rattle.emtp_walk.specs.LineRead.{Read, order_fault, place_of}
use Rattle.emtp_walk.specs.Walk.{advance, after_place, begin_fault, begin_place, branch_step, card_step, empty_deck, first_step, is_phase, is_second, output_step, point_or_end, point_step, points_follow, scale_by, scale_of, second_step, source_step, start_step, step, switch_step, take_branch, take_copied, take_third, take_values, third_by, third_step, times_step, tolerance_step, vintage_or, waiting_step, walk, with_card}
use Rattle.emtp_walk.specs.held.Coefficients.{IsBlockDue, IsBlockEntry}
use Rattle.emtp_walk.specs.held.Sound.{IsDeviceDue, IsDeviceGroup, IsExtraEntry, IsFormulaCard, IsGroupOf, IsHead, IsNumerator, IsSound, IsTrioEntry, IsWaiting, IsWhole, is_pseudo}
use Rattle.emtp_walk.specs.declared.control_cards.BlockEntry.{BlockEntry}
use Rattle.emtp_walk.specs.declared.control_cards.ControlPlace.{ControlPlace}
use Rattle.emtp_walk.specs.declared.control_cards.ControlPlace.TheVariants.{Blocks, Denominator, DevicePoints, Extras, Initial, Numerator, TacsOutputs, TacsSources}
use Rattle.emtp_walk.specs.declared.control_cards.DeviceGroup.{DeviceGroup}
use Rattle.emtp_walk.specs.declared.control_cards.ExtraEntry.{ExtraEntry}
use Rattle.emtp_walk.specs.declared.control_cards.ExtraEntry.TheVariants.{Device as DeviceEntry, Formula as FormulaEntry}
use Rattle.emtp_walk.specs.declared.deck.BranchEntry.TheVariants.{Trio}
use Rattle.emtp_walk.specs.declared.deck.Deck.{Deck}
use Rattle.emtp_walk.specs.declared.deck.Group.{Group}
use Rattle.emtp_walk.specs.declared.deck.Place.{Place}
use Rattle.emtp_walk.specs.declared.deck.Place.TheVariants.{After, Begin, Branches, Control, First, Outputs, Points, Second, Sources, Start, Switches, Third, Waiting}
use Rattle.emtp_walk.proofs.BranchSounding.{card_alone, group_ended, one_more_branch}
use Rattle.emtp_walk.proofs.ControlCoefficients.{block_divided, plain_block}
use Rattle.emtp_walk.proofs.ControlSounding.{one_more_block, one_more_extra, one_more_output, one_more_source}
use Rattle.emtp_walk.proofs.DevicePoints.{device_alone, device_begins, device_ended, device_group}
use Rattle.emtp_walk.proofs.Rising.{go_ok, if_ok, unless_ok}
use Rattle.emtp_walk.proofs.Sounding.{head_whole, point_group, point_whole, pushed}

-- ---- five inputs

abbrev pub HasFive : ExtraEntry → Type 0
HasFive (DeviceEntry card first count) = length card.inputs ≡ 5
HasFive (FormulaEntry card) = Unit {0}

-- each card of the control has five inputs
pub record HasFiveEach (deck : Deck) : Type 0 where
  pub blocks : All (λ (e : BlockEntry). length e.card.inputs ≡ 5) deck.control.blocks
  pub extras : All HasFive deck.control.extras

abbrev pub HasFiveDue : ControlPlace → Type 0
HasFiveDue (Numerator card) = length card.inputs ≡ 5
HasFiveDue (Denominator card top line) = length card.inputs ≡ 5
HasFiveDue (DevicePoints group) = length group.card.inputs ≡ 5
HasFiveDue other = Unit {0}

abbrev pub HasFiveAt : Place → Type 0
HasFiveAt (Control at) = HasFiveDue at
HasFiveAt other = Unit {0}

abbrev pub Keeps : Deck × Place → Type 0
Keeps s = IsSound s.0 s.1 × (HasFiveEach s.0 × HasFiveAt s.1)

-- ---- steps

if_test : {A : Type 0} (P : A → Type 0) (b : Bool) (x y : Result A Bad) → (b ≡ true → IfOk x P) → (b ≡ false → IfOk y P) → IfOk (if b then x else y) P
if_test P true x y h k = h refl
if_test P false x y h k = k refl

placed : (deck : Deck) (r : Result Place Bad) → IfOk r (λ place. Keeps (deck, place)) → IfOk (place_of deck r) Keeps
placed deck (Ok place) h = h
placed deck (Err bad) h = tt

begins : (deck : Deck) (number : ℕ) (line : List ℕ) → IsHead deck → HasFiveEach deck → IfOk (place_of deck (begin_place number line)) Keeps
unfolding begin_place
begins deck number line head five =
    placed deck _ (if_ok (λ place. Keeps (deck, place)) (is_section_end line) (Ok Begin) (unless (begin_fault number line) (λ bad. bad) (Ok (First false))) (head, (five, tt)) (unless_ok (λ place. Keeps (deck, place)) (begin_fault number line) (First false) (head, (five, tt))))

ends : (deck : Deck) (number : ℕ) (line : List ℕ) (seen : Bool) → IsWhole deck → HasFiveEach deck → IfOk (place_of deck (after_place number line seen)) Keeps
unfolding after_place
ends deck number line seen whole five =
    placed deck _ (if_ok (λ place. Keeps (deck, place)) (is_section_end line) (Ok (After seen)) (unless (if seen then order_fault number line else begin_fault number line) (λ bad. bad) (Ok (After true))) (whole, (five, tt))
    (unless_ok (λ place. Keeps (deck, place)) (if seen then order_fault number line else begin_fault number line) (After true) (whole, (five, tt))))

with_run : (deck : Deck) (run : RunData) → IsRun run → IsHead deck → IsHead (record deck { run = run })
with_run deck run is head = record { run = is; control = head.control; branches = head.branches; switches = head.switches; sources = head.sources }

same_five : (deck : Deck) (run : RunData) → HasFiveEach deck → HasFiveEach (record deck { run = run })
same_five deck run five = record { blocks = five.blocks; extras = five.extras }

firsts : (deck : Deck) (number : ℕ) (line : List ℕ) (seen : Bool) → IsHead deck → HasFiveEach deck → IfOk (first_step deck number line seen) Keeps
unfolding first_step tolerance_step times_step
firsts deck number line seen head five = if_ok Keeps (starts_with nat_eq line (codes "RESIDUAL TOLERANCE")) (tolerance_step deck number line seen) (times_step deck number line)
    (if_ok Keeps seen (unless (order_fault number line) (λ bad. bad) (Ok (deck, First true))) (go_on (λ (z : ℤ). Ok (record deck { run = record deck.run { tolerance = z } }, First true)) (tolerance_card number line))
    (unless_ok Keeps (order_fault number line) (deck, First true) (head, (five, tt)))
    (go_ok Keeps _ (tolerance_card number line) (λ z e.
    let w = tolerance_keeps number line z e in
    let r = head.run in
    let run : IsRun (record deck.run { tolerance = z }) = record { dt = r.dt; some_steps = r.some_steps; few_steps = r.few_steps; some_every = r.some_every; few_every = r.few_every; tolerance = record { least = w.least; most = w.most } } in
    (with_run deck (record deck.run { tolerance = z }) run head, (same_five deck (record deck.run { tolerance = z }) five, tt)))))
    (go_ok Keeps _ (first_card number line) (λ card e.
    let w = first_keeps number line card e in
    let r = head.run in
    let new : RunData = record deck.run { dt = card.dt; steps = card.steps } in
    let run : IsRun new = record { dt = record { least = w.dt.least; most = w.dt.most }; some_steps = w.steps.some; few_steps = w.steps.few; some_every = r.some_every; few_every = r.few_every; tolerance = r.tolerance } in
    (with_run deck new run head, (same_five deck new five, tt))))

seconds : (deck : Deck) (number : ℕ) (line : List ℕ) → IsHead deck → HasFiveEach deck → IfOk (second_step deck number line) Keeps
unfolding second_step
seconds deck number line head five = go_ok Keeps _ (second_card number line) (λ every e.
    let w = second_keeps number line every e in
    let r = head.run in
    let new : RunData = record deck.run { every = every } in
    let run : IsRun new = record { dt = r.dt; some_steps = r.some_steps; few_steps = r.few_steps; some_every = w.some; few_every = w.few; tolerance = r.tolerance } in
    let later : IsHead (record deck { run = new; second = number }) = record { run = run; control = head.control; branches = head.branches; switches = head.switches; sources = head.sources } in
    (head_whole (record deck { run = new; second = number }) later, (record { blocks = five.blocks; extras = five.extras }, tt)))

-- ---- branches

alone : (deck : Deck) (card : BranchCard) (wide : Bool) → IsWhole deck → HasFiveEach deck → HasNumbers deck.run.dt card → is_phase (Ok (kind_of_values card.values)) ≡ false → is_pseudo card.values ≡ false → Keeps (with_card deck card, Branches wide)
alone deck card wide whole five numbers phase none = (card_alone deck card whole numbers phase none, (record { blocks = five.blocks; extras = five.extras }, tt))

group_begins : (deck : Deck) (card : BranchCard) (wide : Bool) → IsWhole deck → HasFiveEach deck → HasNumbers deck.run.dt card → is_pseudo card.values ≡ true → Keeps (points_follow deck card wide)
group_begins deck card wide whole five numbers pseudo = (
  (
    whole,
    record {
      numbers = numbers;
      pseudo = pseudo;
      few = omega arith;
      there = omega arith;
      before = refl;
      point = λ p e. absurd (cc);
      characteristic = λ k l. absurd (omega (arith, l, length-drop (length deck.points) deck.points));
    },
  ),
  (five, tt),
)

waits : (deck : Deck) (card : BranchCard) (wide : Bool) → IsWhole deck → HasFiveEach deck → HasNumbers deck.run.dt card → kind_of_values card.values ≡ LineKind → Keeps (deck, Waiting card wide)
waits deck card wide whole five numbers kind = ((whole, record { numbers = numbers; kind = kind }), (five, tt))

copied : (deck : Deck) (card : BranchCard) (wide : Bool) (kind : BranchKind) → IsWhole deck → HasFiveEach deck → HasNumbers deck.run.dt card → is_phase (Ok (kind_of_values card.values)) ≡ false → is_pseudo card.values ≡ false → kind_of_values card.values ≡ kind
    → Keeps (take_copied deck card wide kind)
copied deck card wide LineKind whole five numbers phase none is = waits deck card wide whole five numbers is
copied deck card wide SeriesKind whole five numbers phase none is = alone deck card wide whole five numbers phase none
copied deck card wide SecondKind whole five numbers phase none is = alone deck card wide whole five numbers phase none
copied deck card wide ThirdKind whole five numbers phase none is = alone deck card wide whole five numbers phase none
copied deck card wide ReactorKind whole five numbers phase none is = alone deck card wide whole five numbers phase none
copied deck card wide ResistorKind whole five numbers phase none is = alone deck card wide whole five numbers phase none

taken : (deck : Deck) (card : BranchCard) (wide : Bool) (v : BranchValues) → card.values ≡ v → IsWhole deck → HasFiveEach deck → HasNumbers deck.run.dt card → is_phase (Ok (kind_of_values card.values)) ≡ false → Keeps (take_values deck card wide v)
taken deck card wide (LumpedCard r l c) is whole five numbers phase = alone deck card wide whole five numbers phase (ap is_pseudo is)
taken deck card wide (LineCard zc r d) is whole five numbers phase = waits deck card wide whole five numbers (ap kind_of_values is)
taken deck card wide (SecondCard zc r d) is whole five numbers phase = alone deck card wide whole five numbers phase (ap is_pseudo is)
taken deck card wide ThirdCard is whole five numbers phase = alone deck card wide whole five numbers phase (ap is_pseudo is)
taken deck card wide ReactorCard is whole five numbers phase = group_begins deck card wide whole five numbers (ap is_pseudo is)
taken deck card wide ResistorCard is whole five numbers phase = group_begins deck card wide whole five numbers (ap is_pseudo is)
taken deck card wide (CopiedCard kind a b) is whole five numbers phase = copied deck card wide kind whole five numbers phase (ap is_pseudo is) (ap kind_of_values is)

cards : (deck : Deck) (number : ℕ) (line : List ℕ) (wide : Bool) → IsWhole deck → HasFiveEach deck → IfOk (card_step deck number line wide) Keeps
unfolding card_step
cards deck number line wide whole five = if_test Keeps (is_phase (kind_field line)) (unless (order_fault number line) (λ bad. bad) (Ok (deck, Branches wide))) (go_on (λ (card : BranchCard). Ok (take_branch deck card wide)) (branch_card number line deck.run.dt wide))
    (λ t. unless_ok Keeps (order_fault number line) (deck, Branches wide) (whole, (five, tt)))
    (λ t. go_ok Keeps _ (branch_card number line deck.run.dt wide) (λ card e.
    let kind = branch_kind_is number line deck.run.dt wide card e in
    taken deck card wide card.values refl whole five (branch_keeps number line deck.run.dt wide card e) (ap is_phase (sym kind) ∙ t)))

vintaged : (deck : Deck) (width : Option (Result Bool Bad)) (card : Read) → IsWhole deck → HasFiveEach deck → IfOk card Keeps → IfOk (vintage_or deck width card) Keeps
vintaged deck None card whole five h = h
vintaged deck (Some width) card whole five h = go_ok Keeps _ width (λ wide e. (whole, (five, tt)))

branches : (deck : Deck) (number : ℕ) (line : List ℕ) (wide : Bool) → IsWhole deck → HasFiveEach deck → IfOk (branch_step deck number line wide) Keeps
unfolding branch_step
branches deck number line wide whole five = if_ok Keeps (is_section_end line) (Ok (deck, Switches)) (vintage_or deck (vintage_card number line) (card_step deck number line wide)) (whole, (five, tt))
    (vintaged deck (vintage_card number line) (card_step deck number line wide) whole five (cards deck number line wide whole five))

starts : (deck : Deck) (number : ℕ) (line : List ℕ) → IsWhole deck → HasFiveEach deck → IfOk (start_step deck number line) Keeps
unfolding start_step
starts deck number line whole five = if_ok Keeps (starts_with nat_eq line (codes "TACS HYBRID")) (unless (judge number line None) (λ bad. bad) (Ok (deck, Control Blocks))) (branch_step deck number line false)
    (unless_ok Keeps (judge number line None) (deck, Control Blocks) (whole, (five, tt))) (branches deck number line false whole five)

second_is : (k : BranchKind) → is_second (Ok k) ≡ true → k ≡ SecondKind
second_is SecondKind e = refl
second_is SeriesKind e = absurd (cc)
second_is LineKind e = absurd (cc)
second_is ThirdKind e = absurd (cc)
second_is ReactorKind e = absurd (cc)
second_is ResistorKind e = absurd (cc)

line_plain : (v : BranchValues) → kind_of_values v ≡ LineKind → is_pseudo v ≡ false
line_plain (LumpedCard r l c) e = refl
line_plain (LineCard zc r d) e = refl
line_plain (SecondCard zc r d) e = refl
line_plain ThirdCard e = refl
line_plain ReactorCard e = absurd (cc)
line_plain ResistorCard e = absurd (cc)
line_plain (CopiedCard kind a b) e = refl

waitings : (deck : Deck) (number : ℕ) (line : List ℕ) (card : BranchCard) (wide : Bool) → IsWhole deck → IsWaiting deck card → HasFiveEach deck → IfOk (waiting_step deck number line card wide) Keeps
unfolding waiting_step
waitings deck number line card wide whole waiting five =
    if_test Keeps (is_second (kind_field line)) (go_on (λ (positive : BranchCard). Ok (deck, Third card positive wide)) (branch_card number line deck.run.dt wide)) (branch_step (with_card deck card) number line wide)
    (λ t. go_ok Keeps _ (branch_card number line deck.run.dt wide) (λ positive e.
    let kind = branch_kind_is number line deck.run.dt wide positive e in
    let second = second_is (kind_of_values positive.values) (ap is_second (sym kind) ∙ t) in
    ((whole, record { zero_numbers = waiting.numbers; zero_kind = waiting.kind; positive_numbers = branch_keeps number line deck.run.dt wide positive e; positive_kind = second }), (five, tt))))
    (λ t.
    let kept = alone deck card wide whole five waiting.numbers (ap (λ k. is_phase (Ok k)) waiting.kind) (line_plain card.values waiting.kind) in
    branches (with_card deck card) number line wide kept.0 kept.1.0)

third_taken : (deck : Deck) (number : ℕ) (line : List ℕ) (zero' positive : BranchCard) (wide : Bool) → IsWhole deck → IsTrioEntry deck.run zero' positive → HasFiveEach deck → IfOk (take_third deck number line zero' positive wide) Keeps
third_taken deck number line zero' positive wide whole trio five = go_ok Keeps _ (branch_card number line deck.run.dt wide) (λ third e.
    (one_more_branch deck (Trio zero' positive third) whole (trio, branch_keeps number line deck.run.dt wide third e), (record { blocks = five.blocks; extras = five.extras }, tt)))

thirds_by : (deck : Deck) (number : ℕ) (line : List ℕ) (zero' positive : BranchCard) (wide : Bool) (kind : Result BranchKind Why) → IsWhole deck → IsTrioEntry deck.run zero' positive → HasFiveEach deck → IfOk (third_by deck number line zero' positive wide kind) Keeps
thirds_by deck number line zero' positive wide (Ok ThirdKind) whole trio five = third_taken deck number line zero' positive wide whole trio five
thirds_by deck number line zero' positive wide (Ok SecondKind) whole trio five = unless_ok Keeps (order_fault number line) (deck, Branches wide) (whole, (five, tt))
thirds_by deck number line zero' positive wide (Ok SeriesKind) whole trio five = unless_ok Keeps (order_fault number line) (deck, Branches wide) (whole, (five, tt))
thirds_by deck number line zero' positive wide (Ok LineKind) whole trio five = unless_ok Keeps (order_fault number line) (deck, Branches wide) (whole, (five, tt))
thirds_by deck number line zero' positive wide (Ok ReactorKind) whole trio five = unless_ok Keeps (order_fault number line) (deck, Branches wide) (whole, (five, tt))
thirds_by deck number line zero' positive wide (Ok ResistorKind) whole trio five = unless_ok Keeps (order_fault number line) (deck, Branches wide) (whole, (five, tt))
thirds_by deck number line zero' positive wide (Err why) whole trio five =
    if_ok Keeps (is_vintage line) (unless (order_fault number line) (λ bad. bad) (Ok (deck, Branches wide))) (take_third deck number line zero' positive wide)
    (unless_ok Keeps (order_fault number line) (deck, Branches wide) (whole, (five, tt))) (third_taken deck number line zero' positive wide whole trio five)

thirds : (deck : Deck) (number : ℕ) (line : List ℕ) (zero' positive : BranchCard) (wide : Bool) → IsWhole deck → IsTrioEntry deck.run zero' positive → HasFiveEach deck → IfOk (third_step deck number line zero' positive wide) Keeps
unfolding third_step
thirds deck number line zero' positive wide whole trio five =
    if_ok Keeps (is_section_end line) _ (third_by deck number line zero' positive wide (kind_field line)) tt (thirds_by deck number line zero' positive wide (kind_field line) whole trio five)

-- ---- points

one_point : (v : BranchValues) (count : ℕ) → fewest_of (scale_by v) ≤ count → 1 ≤ count
one_point (LumpedCard r l c) count h = h
one_point (LineCard zc r d) count h = h
one_point (SecondCard zc r d) count h = h
one_point ThirdCard count h = h
one_point ReactorCard count h = h
one_point ResistorCard count h = h
one_point (CopiedCard kind a b) count h = h

pointed : (deck : Deck) (group : Group) (point : Option Point) → IsWhole deck → IsGroupOf deck group → HasFiveEach deck → IsNextPoint (scale_of group) group.before group.count deck.run.dt point → Keeps (point_or_end deck group point)
pointed deck group (Some p) whole is five next = ((point_whole deck p whole, point_group deck group p is next.room next.range next.follows), (record { blocks = five.blocks; extras = five.extras }, tt))
pointed deck group None whole is five next = (group_ended deck group whole is (one_point group.card.values group.count next.some), (record { blocks = five.blocks; extras = five.extras }, tt))

points : (deck : Deck) (number : ℕ) (line : List ℕ) (group : Group) → IsWhole deck → IsGroupOf deck group → HasFiveEach deck → IfOk (point_step deck number line group) Keeps
unfolding point_step
points deck number line group whole is five = go_ok Keeps _ (next_point number line (scale_of group) group.before group.count deck.run.dt) (λ point e.
    pointed deck group point whole is five (point_keeps number line (scale_of group) group.before group.count deck.run.dt point e))

-- ---- switches, sources, outputs

switches : (deck : Deck) (number : ℕ) (line : List ℕ) → IsWhole deck → HasFiveEach deck → IfOk (switch_step deck number line) Keeps
unfolding switch_step
switches deck number line whole five =
    if_ok Keeps (is_section_end line) (Ok (deck, Sources)) (go_on (λ (card : SwitchCard). Ok (record deck { switches = deck.switches ++ card ∷ [] }, Switches)) (switch_card number line)) (whole, (five, tt))
    (go_ok Keeps _ (switch_card number line) (λ card e. (
      record { run = whole.run; control = record { blocks = whole.control.blocks; sources = whole.control.sources; extras = whole.control.extras }; branches = whole.branches; switches = pushed HasSwitchNumbers deck.switches card whole.switches (switch_keeps number line card e); sources = whole.sources },
      (record { blocks = five.blocks; extras = five.extras }, tt),
    )))

sources : (deck : Deck) (number : ℕ) (line : List ℕ) → IsWhole deck → HasFiveEach deck → IfOk (source_step deck number line) Keeps
unfolding source_step
sources deck number line whole five =
    if_ok Keeps (is_section_end line) (Ok (deck, Outputs)) (go_on (λ (card : SourceCard). Ok (record deck { sources = deck.sources ++ card ∷ [] }, Sources)) (source_card number line)) (whole, (five, tt))
    (go_ok Keeps _ (source_card number line) (λ card e. (
      record { run = whole.run; control = record { blocks = whole.control.blocks; sources = whole.control.sources; extras = whole.control.extras }; branches = whole.branches; switches = whole.switches; sources = pushed HasSourceCardNumbers deck.sources card whole.sources (source_keeps number line card e) },
      (record { blocks = five.blocks; extras = five.extras }, tt),
    )))

outputs : (deck : Deck) (number : ℕ) (line : List ℕ) → IsWhole deck → HasFiveEach deck → IfOk (output_step deck number line) Keeps
unfolding output_step
outputs deck number line whole five =
    if_ok Keeps (is_section_end line) (Ok (deck, After false)) (go_on (λ (card : OutputCard). Ok (record deck { outputs = deck.outputs ++ (record { line = number; card = card }) ∷ [] }, Outputs)) (output_card number line)) (whole, (five, tt))
    (go_ok Keeps _ (output_card number line) (λ card e. (
      record { run = whole.run; control = record { blocks = whole.control.blocks; sources = whole.control.sources; extras = whole.control.extras }; branches = whole.branches; switches = whole.switches; sources = whole.sources },
      (record { blocks = five.blocks; extras = five.extras }, tt),
    )))

-- ---- the control

block_kept : (deck : Deck) (entry : BlockEntry) → IsWhole deck → HasFiveEach deck → IsBlockEntry deck.run.dt entry → length entry.card.inputs ≡ 5 → Keeps (keep_block deck entry)
block_kept deck entry whole five is inputs =
    (one_more_block deck entry whole is, (record { blocks = pushed (λ (e : BlockEntry). length e.card.inputs ≡ 5) deck.control.blocks entry five.blocks inputs; extras = five.extras }, tt))

zeros_small : All IsSmall (replicate 8 (pos 0))
zeros_small = eight IsSmall (pos 0) (pos 0) (pos 0) (pos 0) (pos 0) (pos 0) (pos 0) (pos 0) (omega arith) (omega arith) (omega arith) (omega arith) (omega arith) (omega arith) (omega arith) (omega arith)

block_taken : (deck : Deck) (card : BlockCard) → IsWhole deck → HasFiveEach deck → IsBlockDue card → length card.inputs ≡ 5 → Keeps (take_block deck card)
block_taken deck card whole five due inputs = go (card.order == 0) refl
  where
    plain : BlockEntry
    plain = record { card = card; top = replicate 8 (pos 0); bottom = replicate 8 (pos 0) }

    go : (b : Bool) → (card.order == 0) ≡ b → Keeps (if b then keep_block deck plain else (deck, Control (Numerator card)))
    go true z = block_kept deck plain whole five (plain_block deck.run.dt plain due (grind (arith, nat_tests)) zeros_small zeros_small) inputs
    go false z = ((whole, due), (five, inputs))

blocks : (deck : Deck) (number : ℕ) (line : List ℕ) → IsWhole deck → HasFiveEach deck → IfOk (block_step deck number line) Keeps
unfolding block_step
blocks deck number line whole five = if_ok Keeps (is_section_end line) (Ok (deck, Control TacsSources)) (go_on (λ (card : BlockCard). Ok (take_block deck card)) (block_card number line)) (whole, (five, tt))
    (go_ok Keeps _ (block_card number line) (λ card e.
    let k = block_keeps number line card e in
    block_taken deck card whole five (record { name = k.name; numbers = k.numbers; limits = k.limits }) k.inputs))

numerators : (deck : Deck) (number : ℕ) (line : List ℕ) (card : BlockCard) → IsWhole deck → IsBlockDue card → HasFiveEach deck → length card.inputs ≡ 5 → IfOk (numerator_step deck number line card) Keeps
unfolding numerator_step
numerators deck number line card whole due five inputs = go_ok Keeps _ (polynomial_card number line card.order deck.run.dt) (λ top e.
    ((whole, record { due = due; polynomial = polynomial_keeps number line card.order deck.run.dt top e }), (five, inputs)))

unless_none : {A : Type 0} (P : A → Type 0) (bad : Option Bad) (x : A) → (bad ≡ None → P x) → IfOk (unless bad (λ bad. bad) (Ok x)) P
unless_none P (Some bad) x h = tt
unless_none P None x h = h refl

divided : (dt : ℤ) (e : BlockEntry) (top bottom : ℕ) → divided_bad dt e top bottom ≡ None → (sum_upto e.card.order (power_of dt e.bottom) ≢ pos 0) × (divided_by dt e top bottom (sum_upto e.card.order (power_of dt e.bottom)) ≡ None)
unfolding divided_bad
divided dt e top bottom h = go (int_eq d (pos 0)) refl h
  where
    d : ℤ
    d = sum_upto e.card.order (power_of dt e.bottom)

    go : (b : Bool) → int_eq d (pos 0) ≡ b → (if b then range_bad bottom 1 true else divided_by dt e top bottom d) ≡ None → (d ≢ pos 0) × (divided_by dt e top bottom d ≡ None)
    go true z h = absurd (cc)
    go false z h = (nonzero d z, h)

denominators : (deck : Deck) (number : ℕ) (line : List ℕ) (card : BlockCard) (top : List ℤ) (top_line : ℕ) → IsWhole deck → IsNumerator deck card top → HasFiveEach deck → length card.inputs ≡ 5 → IfOk (denominator_step deck number line card top top_line) Keeps
unfolding denominator_step
denominators deck number line card top top_line whole is five inputs = go_ok Keeps _ (polynomial_card number line card.order deck.run.dt) (λ bottom e.
    let entry : BlockEntry = record { card = card; top = top; bottom = bottom } in
    unless_none Keeps (divided_bad deck.run.dt entry top_line number) (keep_block deck entry) (λ none.
    let d = divided deck.run.dt entry top_line number none in
    block_kept deck entry whole five (block_divided deck.run.dt entry top_line number (sum_upto card.order (power_of deck.run.dt bottom)) refl d.0 is.due is.polynomial (polynomial_keeps number line card.order deck.run.dt bottom e) d.1) inputs))

tacs_sources : (deck : Deck) (number : ℕ) (line : List ℕ) → IsWhole deck → HasFiveEach deck → IfOk (tacs_source_step deck number line) Keeps
unfolding tacs_source_step
tacs_sources deck number line whole five =
    if_ok Keeps (is_section_end line) (Ok (deck, Control Extras)) (go_on (λ (card : SourceCard). Ok (with_tacs_source deck card, Control TacsSources)) (tacs_source_card number line)) (whole, (five, tt))
    (go_ok Keeps _ (tacs_source_card number line) (λ card e.
    let k = tacs_source_keeps number line card e in
    (one_more_source deck card whole (record { name = k.name; numbers = k.numbers }), (record { blocks = five.blocks; extras = five.extras }, tt))))

extra_kept : (deck : Deck) (entry : ExtraEntry) → IsWhole deck → HasFiveEach deck → IsExtraEntry deck.points entry → HasFive entry → Keeps (keep_extra deck entry)
extra_kept deck entry whole five is inputs = (one_more_extra deck entry whole is, (record { blocks = five.blocks; extras = pushed HasFive deck.control.extras entry five.extras inputs }, tt))

device_taken : (deck : Deck) (card : DeviceCard) → IsWhole deck → HasFiveEach deck → IsDeviceDue card → length card.inputs ≡ 5 → Keeps (take_device deck card)
device_taken deck card whole five due inputs = go (device_points_follow card.code) refl
  where
    group : DeviceGroup
    group = record { card = card; first = length deck.points; count = 0; before = None }

    go : (b : Bool) → device_points_follow card.code ≡ b → Keeps (if b then (deck, Control (DevicePoints group)) else keep_extra deck (DeviceEntry card 0 0))
    go true f = ((whole, device_begins deck card due f), (five, inputs))
    go false f = extra_kept deck (DeviceEntry card 0 0) whole five (device_alone deck.points card due f) inputs

device_read : (deck : Deck) (r : Result DeviceCard Bad) (card : ExtraCard) → IsWhole deck → HasFiveEach deck → ((c : DeviceCard) → r ≡ Ok c → IsDeviceDue c × (length c.inputs ≡ 5)) → as_device r ≡ Ok card → Keeps (take_extra deck card)
device_read deck (Ok c) card whole five all e = let is : DeviceOf c ≡ card = cc in let k = all c refl in subst (λ x. Keeps (take_extra deck x)) is (device_taken deck c whole five k.0 k.1)
device_read deck (Err bad) card whole five all e = absurd (cc)

formula_read : (deck : Deck) (r : Result FormulaCard Bad) (card : ExtraCard) → IsWhole deck → HasFiveEach deck → ((c : FormulaCard) → r ≡ Ok c → IsFormulaCard c) → as_formula r ≡ Ok card → Keeps (take_extra deck card)
formula_read deck (Ok c) card whole five all e = let is : FormulaOf c ≡ card = cc in subst (λ x. Keeps (take_extra deck x)) is (extra_kept deck (FormulaEntry c) whole five (all c refl) tt)
formula_read deck (Err bad) card whole five all e = absurd (cc)

extra_read : (deck : Deck) (number : ℕ) (line : List ℕ) (card : ExtraCard) → IsWhole deck → HasFiveEach deck → extra_card number line ≡ Ok card → Keeps (take_extra deck card)
unfolding extra_card
extra_read deck number line card whole five e = go (is_formula line) e
  where
    answer : Bool → Result ExtraCard Bad
    answer is = if is then as_formula (formula_card number line (expression_of (expression_text line))) else as_device (device_card number line)

    go : (is : Bool) → answer is ≡ Ok card → Keeps (take_extra deck card)
    go true e = formula_read deck (formula_card number line (expression_of (expression_text line))) card whole five
        (λ c r. let k = formula_keeps number line (expression_text line) c r in record { name = k.name; parsed = k.parsed }) e
    go false e = device_read deck (device_card number line) card whole five
        (λ c r. let k = device_keeps number line c r in (record { name = k.name; numbers = k.numbers; d = k.d }, k.inputs)) e

extras : (deck : Deck) (number : ℕ) (line : List ℕ) → IsWhole deck → HasFiveEach deck → IfOk (extra_step deck number line) Keeps
unfolding extra_step
extras deck number line whole five = if_ok Keeps (is_section_end line) (Ok (deck, Control TacsOutputs)) (go_on (λ (card : ExtraCard). Ok (take_extra deck card)) (extra_card number line)) (whole, (five, tt))
    (go_ok Keeps _ (extra_card number line) (λ card e. extra_read deck number line card whole five e))

device_pointed : (deck : Deck) (group : DeviceGroup) (point : Option Point) → IsWhole deck → IsDeviceGroup deck group → HasFiveEach deck → length group.card.inputs ≡ 5 → IsNextPoint (device_scale group.card.code) group.before group.count deck.run.dt point
    → Keeps (device_point_or_end deck group point)
device_pointed deck group (Some p) whole is five inputs next = ((point_whole deck p whole, device_group deck group p is next.room next.range next.follows), (record { blocks = five.blocks; extras = five.extras }, inputs))
device_pointed deck group None whole is five inputs next = extra_kept deck (DeviceEntry group.card group.first group.count) whole five (device_ended deck group is next.some) inputs

device_points : (deck : Deck) (number : ℕ) (line : List ℕ) (group : DeviceGroup) → IsWhole deck → IsDeviceGroup deck group → HasFiveEach deck → length group.card.inputs ≡ 5 → IfOk (device_point_step deck number line group) Keeps
unfolding device_point_step
device_points deck number line group whole is five inputs = go_ok Keeps _ (next_point number line (device_scale group.card.code) group.before group.count deck.run.dt) (λ point e.
    device_pointed deck group point whole is five inputs (point_keeps number line (device_scale group.card.code) group.before group.count deck.run.dt point e))

tacs_outputs : (deck : Deck) (number : ℕ) (line : List ℕ) → IsWhole deck → HasFiveEach deck → IfOk (tacs_output_step deck number line) Keeps
unfolding tacs_output_step
tacs_outputs deck number line whole five =
    if_ok Keeps (is_section_end line) (Ok (deck, Control Initial)) (go_on (λ (names : List (Option (List ℕ))). Ok (with_tacs_output deck number names, Control TacsOutputs)) (tacs_output_card number line)) (whole, (five, tt))
    (go_ok Keeps _ (tacs_output_card number line) (λ names e. (one_more_output deck number names whole, (record { blocks = five.blocks; extras = five.extras }, tt))))

initials : (deck : Deck) (number : ℕ) (line : List ℕ) → IsWhole deck → HasFiveEach deck → IfOk (place_of deck (initial_place number line)) Keeps
unfolding initial_place
initials deck number line whole five = placed deck _ (if_ok (λ place. Keeps (deck, place)) (is_section_end line) (Ok (Branches false)) (unless (order_fault number line) (λ bad. bad) (Ok (Branches false))) (whole, (five, tt))
    (unless_ok (λ place. Keeps (deck, place)) (order_fault number line) (Branches false) (whole, (five, tt))))

controls : (deck : Deck) (number : ℕ) (line : List ℕ) (at : ControlPlace) → Keeps (deck, Control at) → IfOk (control_step deck number line at) Keeps
controls deck number line Blocks k = blocks deck number line k.0 k.1.0
controls deck number line (Numerator card) k = numerators deck number line card k.0.0 k.0.1 k.1.0 k.1.1
controls deck number line (Denominator card top top_line) k = denominators deck number line card top top_line k.0.0 k.0.1 k.1.0 k.1.1
controls deck number line TacsSources k = tacs_sources deck number line k.0 k.1.0
controls deck number line Extras k = extras deck number line k.0 k.1.0
controls deck number line (DevicePoints group) k = device_points deck number line group k.0.0 k.0.1 k.1.0 k.1.1
controls deck number line TacsOutputs k = tacs_outputs deck number line k.0 k.1.0
controls deck number line Initial k = initials deck number line k.0 k.1.0

-- ---- all lines

steps : (deck : Deck) (place : Place) (number : ℕ) (line : List ℕ) → Keeps (deck, place) → IfOk (step deck place number line) Keeps
steps deck Begin number line k = begins deck number line k.0 k.1.0
steps deck (First seen) number line k = firsts deck number line seen k.0 k.1.0
steps deck Second number line k = seconds deck number line k.0 k.1.0
steps deck Start number line k = starts deck number line k.0 k.1.0
steps deck (Control at) number line k = controls deck number line at k
steps deck (Branches wide) number line k = branches deck number line wide k.0 k.1.0
steps deck (Points group) number line k = points deck number line group k.0.0 k.0.1 k.1.0
steps deck (Waiting card wide) number line k = waitings deck number line card wide k.0.0 k.0.1 k.1.0
steps deck (Third zero' positive wide) number line k = thirds deck number line zero' positive wide k.0.0 k.0.1 k.1.0
steps deck Switches number line k = switches deck number line k.0 k.1.0
steps deck Sources number line k = sources deck number line k.0 k.1.0
steps deck Outputs number line k = outputs deck number line k.0 k.1.0
steps deck (After seen) number line k = ends deck number line seen k.0 k.1.0

walks : (lines : List (List ℕ)) (number : ℕ) (deck : Deck) (place : Place) → Keeps (deck, place) → IfOk (walk number deck place lines) Keeps
walks [] number deck place k = k
walks (line ∷ lines) number deck place k = go_ok Keeps _ (advance deck place number line) (λ next e.
    let now : IfOk (advance deck place number line) Keeps = if_ok Keeps (is_comment line) (Ok (deck, place)) (step deck place number line) k (steps deck place number line k) in
    walks lines (number + 1) next.0 next.1 (subst (λ (r : Read). IfOk r Keeps) e now))

begin : IsHead empty_deck
begin = record {
  run = record { dt = record { least = omega (arith, ints); most = omega (arith, ints) }; some_steps = omega arith; few_steps = omega arith; some_every = omega arith; few_every = omega arith; tolerance = record { least = omega (arith, ints); most = omega (arith, ints) } };
  control = refl;
  branches = refl;
  switches = refl;
  sources = refl;
}

-- the cards of every deck that was read keep what they do, and each one of the control has five inputs
pub walk_keeps : (lines : List (List ℕ)) (deck : Deck) (place : Place) → walk 1 empty_deck Begin lines ≡ Ok (deck, place) → IsSound deck place × HasFiveEach deck
walk_keeps lines deck place e =
    let all = subst (λ (r : Read). IfOk r Keeps) e (walks lines 1 empty_deck Begin (begin, (record { blocks = All-nil (λ (b : BlockEntry). length b.card.inputs ≡ 5); extras = All-nil HasFive }, tt))) in
    (all.0, all.1.0)
