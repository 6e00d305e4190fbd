-- The cards of a deck, and those that wait, are those of the lines that are read so.
use Rattle.std.proofs.Common.{◌≡◌, ◌∙◌, sym, ap, refl, subst, ℕ, suc, ◌+◌, ℤ, Bool, true, false, List, [], ◌∷◌, ◌++◌, length, map, take, replicate, pos, Option, Some, None, Result, Ok, Err, arith, append_assoc}
use Rattle.std.specs.List.{starts_with}
use Rattle.std.specs.Prelude.{IfOk, if◌then◌else◌, nat_eq, codes, ◌==◌}
use Rattle.std.proofs.lemmas.List.{append-nil, map-append}
use Rattle.emtp_fix.specs.Chain.{unless}
use Rattle.emtp_card.specs.Fault.{judge, judge_by}
use Rattle.emtp_card.specs.Lines.{fault_of_line, is_comment, is_section_end}
use Rattle.emtp_card.specs.declared.fault.Fault.{Fault}
use Rattle.emtp_card.specs.declared.reason.Bad.{Bad}
use Rattle.emtp_card.specs.declared.reason.Why.{Why}
use Rattle.emtp_card.specs.declared.reason.Why.TheVariants.{BadOrder}
use Rattle.emtp_case.specs.declared.branch.Point.{Point}
use Rattle.emtp_netcards.specs.BranchCard as branches
use Rattle.emtp_netcards.specs.OutputCard.{output_card}
use Rattle.emtp_netcards.specs.PointCard.{next_point}
use Rattle.emtp_netcards.specs.RunCards.{first_card, second_card, tolerance_card}
use Rattle.emtp_netcards.specs.SourceCard as sources
use Rattle.emtp_netcards.specs.SwitchCard as switches
use Rattle.emtp_netcards.specs.VintageCard.{is_vintage, vintage_card}
use Rattle.emtp_netcards.specs.declared.branch_card.BranchCard.{BranchCard}
use Rattle.emtp_netcards.specs.declared.branch_card.BranchKind.{BranchKind}
use Rattle.emtp_netcards.specs.declared.branch_card.BranchKind.TheVariants.{Line as LineKind, Reactor as ReactorKind, Resistor as ResistorKind, Second as SecondKind, Series as SeriesKind, Third as ThirdKind}
use Rattle.emtp_netcards.specs.declared.branch_card.BranchValues.{BranchValues}
use Rattle.emtp_netcards.specs.declared.branch_card.BranchValues.TheVariants.{Copied as CopiedCard, Line as LineCard, Lumped as LumpedCard, Reactor as ReactorCard, Resistor as ResistorCard, Second as SecondCard, Third as ThirdCard}
use Rattle.emtp_netcards.specs.declared.output_card.OutputCard.{OutputCard}
use Rattle.emtp_netcards.specs.declared.source_card.SourceCard.{SourceCard}
use Rattle.emtp_netcards.specs.declared.switch_card.SwitchCard.{SwitchCard}
use Rattle.emtp_netcards.proofs.CardLines.{branch_line, source_line, switch_line}
use Rattle.emtp_taccards.specs.BlockCard.{block_card}
use Rattle.emtp_taccards.specs.ExtraCard.{extra_card}
use Rattle.emtp_taccards.specs.PolynomialCard.{polynomial_card}
use Rattle.emtp_taccards.specs.TacsOutputCard.{tacs_output_card}
use Rattle.emtp_taccards.specs.TacsSourceCard.{tacs_source_card}
use Rattle.emtp_taccards.specs.declared.block_card.BlockCard.{BlockCard}
use Rattle.emtp_taccards.specs.declared.device_card.DeviceCard.{DeviceCard}
use Rattle.emtp_taccards.specs.declared.extra_card.ExtraCard.{ExtraCard}
use Rattle.emtp_taccards.specs.declared.extra_card.ExtraCard.TheVariants.{Device as DeviceOf, Formula as FormulaOf}
use Rattle.emtp_walk.specs.Answer.{go_on}
use Rattle.emtp_walk.specs.Coefficients.{divided_bad}
use Rattle.emtp_walk.specs.ControlSteps.{block_step, control_step, denominator_step, device_point_or_end, device_point_step, device_scale, extra_step, initial_place, keep_block, keep_extra, numerator_step, points_follow, tacs_output_step, tacs_source_step, take_block, take_device, take_extra, with_denominator, with_tacs_output, with_tacs_source}
use Rattle.emtp_walk.specs.Laws.{AreRead, CardLines, branch_lines, cards_read, entry_lines, extra_line, lines_by_list, no_cards, with_line}
use Rattle.emtp_walk.specs.LineRead.{Read, order_fault, place_of}
use Rattle.emtp_walk.specs.Readings as reading
use Rattle.emtp_walk.specs.Readings.{branch_kind, card_kind, control_kind, kind_at, line_reading, line_readings, readings_from, start_kind, unless_refused, waiting_kind}
use Rattle.emtp_walk.specs.Walk.{advance, after_place, begin_fault, begin_place, branch_step, card_step, empty_deck, first_step, is_phase, is_second, output_step, point_or_end, point_step, scale_of, second_step, source_step, start_step, step, switch_step, take_branch, take_copied, take_third, take_values, third_by, third_step, times_step, tolerance_step, vintage_or, waiting_step, walk, with_card}
use Rattle.emtp_walk.specs.declared.control_cards.BlockEntry.{BlockEntry}
use Rattle.emtp_walk.specs.declared.control_cards.ControlPlace.{ControlPlace}
use Rattle.emtp_walk.specs.declared.control_cards.ControlPlace.TheVariants.{Blocks, Denominator, DevicePoints, Extras, Initial, Numerator, TacsOutputs, TacsSources}
use Rattle.emtp_walk.specs.declared.control_cards.DeviceGroup.{DeviceGroup}
use Rattle.emtp_walk.specs.declared.control_cards.ExtraEntry.{ExtraEntry}
use Rattle.emtp_walk.specs.declared.control_cards.ExtraEntry.TheVariants.{Device as DeviceEntry, Formula as FormulaEntry}
use Rattle.emtp_walk.specs.declared.control_cards.TacsOutputEntry.{TacsOutputEntry}
use Rattle.emtp_walk.specs.declared.deck.BranchEntry.{BranchEntry}
use Rattle.emtp_walk.specs.declared.deck.BranchEntry.TheVariants.{Single, Trio}
use Rattle.emtp_walk.specs.declared.deck.Deck.{Deck}
use Rattle.emtp_walk.specs.declared.deck.Group.{Group}
use Rattle.emtp_walk.specs.declared.deck.OutputEntry.{OutputEntry}
use Rattle.emtp_walk.specs.declared.deck.Place.{Place}
use Rattle.emtp_walk.specs.declared.deck.Place.TheVariants.{After, Begin, Branches, Control, First, Outputs, Points, Second, Sources, Start, Switches, Third, Waiting}
use Rattle.emtp_walk.specs.declared.kind.Kind.{Kind}
use Rattle.emtp_walk.specs.declared.kind.Kind.TheVariants as read
use Rattle.emtp_walk.specs.declared.kind.LineReading.{LineReading}
use Rattle.emtp_walk.proofs.ControlLines.{block_line, extra_line_is, line_of_extra, tacs_source_line}
use Rattle.emtp_walk.proofs.Rising.{if_ok, go_ok, unless_ok}

-- ---- what a line adds

-- the cards behind a line that is read so are those before it and its own
abbrev pub Adds : CardLines → ℕ → Kind → Deck × Place → Type 0
Adds lines number kind next = lines_by_list next.0 next.1 ≡ with_line number kind lines

-- the cards at a place where none waits
abbrev pub at_rest : Deck → CardLines
at_rest deck = lines_by_list deck Begin

-- what is read and what it adds hang on the same test
by_test : (lines : CardLines) (number : ℕ) (b : Bool) (x y : Read) (k l : Kind) → IfOk x (Adds lines number k) → IfOk y (Adds lines number l) → IfOk (if b then x else y) (Adds lines number (if b then k else l))
by_test lines number true x y k l h i = h
by_test lines number false x y k l h i = i

-- a line that ends a section, or a card that adds nothing, where the next place is known
placed : (deck : Deck) (lines : CardLines) (number : ℕ) (kind : Kind) (b : Bool) (here next : Place) (bad : Option Bad) → lines_by_list deck here ≡ lines → lines_by_list deck next ≡ with_line number kind lines
    → IfOk (place_of deck (if b then Ok here else unless bad (λ bad. bad) (Ok next))) (Adds lines number (if b then read.SectionEnd else kind))
placed deck lines number kind true here next bad h i = h
placed deck lines number kind false here next (Some bad) h i = tt
placed deck lines number kind false here next None h i = i

-- the same behind other cards
through : (lines others : CardLines) (number : ℕ) (kind : Kind) (r : Read) → lines ≡ others → IfOk r (Adds lines number kind) → IfOk r (Adds others number kind)
through lines others number kind (Ok next) e h = h ∙ ap (with_line number kind) e
through lines others number kind (Err bad) e h = tt

-- a card that can't stand where it does is refused
never : (P : Deck × Place → Type 0) (number : ℕ) (fault : Option (ℕ × Why)) (f : Fault) (x : Deck × Place) → IfOk (unless (judge_by number fault (Some f)) (λ bad. bad) (Ok x)) P
never P number (Some bad) f x = tt
never P number None f x = tt

misplaced : (P : Deck × Place → Type 0) (number : ℕ) (line : List ℕ) (x : Deck × Place) → IfOk (unless (order_fault number line) (λ bad. bad) (Ok x)) P
misplaced P number line x = never P number (fault_of_line line) (record { column = 1; why = BadOrder }) x

-- ---- one number more

mapped : {A : Type 0} (f : A → ℕ) (xs : List A) (x : A) (number : ℕ) → f x ≡ number → map f (xs ++ x ∷ []) ≡ map f xs ++ number ∷ []
mapped f xs x number e = map-append f xs (x ∷ []) ∙ ap (λ (n : ℕ). map f xs ++ n ∷ []) e

-- a card waits
waits : (xs : List ℕ) (n number : ℕ) → n ≡ number → xs ++ n ∷ [] ≡ (xs ++ []) ++ number ∷ []
waits xs n number e = ap (λ (k : ℕ). xs ++ k ∷ []) e ∙ sym (ap (λ (ys : List ℕ). ys ++ number ∷ []) (append-nil xs))

-- a card is kept at once, or behind those that waited with it
kept : {A : Type 0} (f : A → ℕ) (xs : List A) (x : A) (number : ℕ) → f x ≡ number → map f (xs ++ x ∷ []) ++ [] ≡ (map f xs ++ []) ++ number ∷ []
kept f xs x number e = append-nil (map f (xs ++ x ∷ [])) ∙ mapped f xs x number e ∙ sym (ap (λ (ys : List ℕ). ys ++ number ∷ []) (append-nil (map f xs)))

waited : {A : Type 0} (f : A → ℕ) (xs : List A) (x : A) → map f (xs ++ x ∷ []) ++ [] ≡ map f xs ++ f x ∷ []
waited f xs x = append-nil (map f (xs ++ x ∷ [])) ∙ mapped f xs x (f x) refl

with_blocks : (lines : CardLines) (xs ys : List ℕ) → xs ≡ ys → record lines { blocks = xs } ≡ record lines { blocks = ys }
with_blocks lines xs ys e = ap (λ (zs : List ℕ). record lines { blocks = zs }) e

with_extras : (lines : CardLines) (xs ys : List ℕ) → xs ≡ ys → record lines { extras = xs } ≡ record lines { extras = ys }
with_extras lines xs ys e = ap (λ (zs : List ℕ). record lines { extras = zs }) e

with_branches : (lines : CardLines) (xs ys : List ℕ) → xs ≡ ys → record lines { branches = xs } ≡ record lines { branches = ys }
with_branches lines xs ys e = ap (λ (zs : List ℕ). record lines { branches = zs }) e

-- ---- miscellaneous cards

tolerance_adds : (deck : Deck) (number : ℕ) (line : List ℕ) (seen : Bool) → IfOk (tolerance_step deck number line seen) (Adds (at_rest deck) number read.Tolerance)
unfolding tolerance_step
tolerance_adds deck number line seen =
    let P = Adds (at_rest deck) number read.Tolerance in
    let f : ℤ → Read = λ z. Ok (record deck { run = record deck.run { tolerance = z } }, First true) in
    if_ok P seen (unless (order_fault number line) (λ bad. bad) (Ok (deck, First true))) (go_on f (tolerance_card number line)) (unless_ok P (order_fault number line) (deck, First true) refl) (go_ok P f (tolerance_card number line) (λ z is. refl))

times_adds : (deck : Deck) (number : ℕ) (line : List ℕ) → IfOk (times_step deck number line) (Adds (at_rest deck) number read.FirstRun)
unfolding times_step
times_adds deck number line = go_ok (Adds (at_rest deck) number read.FirstRun) _ (first_card number line) (λ card is. refl)

first_adds : (deck : Deck) (number : ℕ) (line : List ℕ) (seen : Bool) → IfOk (first_step deck number line seen) (Adds (at_rest deck) number (reading.first_kind line))
unfolding first_step
first_adds deck number line seen =
    by_test (at_rest deck) number (starts_with nat_eq line (codes "RESIDUAL TOLERANCE")) (tolerance_step deck number line seen) (times_step deck number line) read.Tolerance read.FirstRun
    (tolerance_adds deck number line seen) (times_adds deck number line)

second_adds : (deck : Deck) (number : ℕ) (line : List ℕ) → IfOk (second_step deck number line) (Adds (at_rest deck) number read.SecondRun)
unfolding second_step
second_adds deck number line = go_ok (Adds (at_rest deck) number read.SecondRun) _ (second_card number line) (λ every is. refl)

begin_adds : (deck : Deck) (number : ℕ) (line : List ℕ) → IfOk (place_of deck (begin_place number line)) (Adds (at_rest deck) number (card_kind Begin line))
unfolding begin_place
begin_adds deck number line = placed deck (at_rest deck) number read.Begin (is_section_end line) Begin (First false) (begin_fault number line) refl refl

after_adds : (deck : Deck) (number : ℕ) (line : List ℕ) (seen : Bool) → IfOk (place_of deck (after_place number line seen)) (Adds (at_rest deck) number (card_kind (After seen) line))
unfolding after_place
after_adds deck number line seen =
    placed deck (at_rest deck) number read.After (is_section_end line) (After seen) (After true) (if seen then order_fault number line else begin_fault number line) refl refl

-- ---- the control

block_taken : (deck : Deck) (number : ℕ) (card : BlockCard) → card.line ≡ number → Adds (at_rest deck) number read.Block (take_block deck card)
block_taken deck number card e = by_order (card.order == 0)
  where
    entry : BlockEntry
    entry = record { card = card; top = replicate 8 (pos 0); bottom = replicate 8 (pos 0) }

    blocks : List ℕ
    blocks = map (λ (b : BlockEntry). b.card.line) deck.control.blocks

    by_order : (t : Bool) → Adds (at_rest deck) number read.Block (if◌then◌else◌ {A = Deck × Place} t (keep_block deck entry) (deck, Control (Numerator card)))
    by_order true = with_blocks (at_rest deck) _ _ (kept (λ (b : BlockEntry). b.card.line) deck.control.blocks entry number e)
    by_order false = with_blocks (at_rest deck) _ _ (waits blocks card.line number e)

block_adds : (deck : Deck) (number : ℕ) (line : List ℕ) → IfOk (block_step deck number line) (Adds (at_rest deck) number (control_kind Blocks line))
unfolding block_step
block_adds deck number line =
    let f : BlockCard → Read = λ card. Ok (take_block deck card) in
    by_test (at_rest deck) number (is_section_end line) (Ok (deck, Control TacsSources)) (go_on f (block_card number line)) read.SectionEnd read.Block refl
    (go_ok (Adds (at_rest deck) number read.Block) f (block_card number line) (λ card is. block_taken deck number card (block_line number line card is)))

numerator_adds : (deck : Deck) (number : ℕ) (line : List ℕ) (card : BlockCard) → IfOk (numerator_step deck number line card) (Adds (lines_by_list deck (Control (Numerator card))) number (read.Coefficients card.order))
unfolding numerator_step
numerator_adds deck number line card = go_ok (Adds (lines_by_list deck (Control (Numerator card))) number (read.Coefficients card.order)) _ (polynomial_card number line card.order deck.run.dt) (λ top is. refl)

denominator_adds : (deck : Deck) (number : ℕ) (line : List ℕ) (card : BlockCard) (top : List ℤ) (top_line : ℕ)
    → IfOk (denominator_step deck number line card top top_line) (Adds (lines_by_list deck (Control (Numerator card))) number (read.Coefficients card.order))
unfolding denominator_step
denominator_adds deck number line card top top_line =
    let P = Adds (lines_by_list deck (Control (Numerator card))) number (read.Coefficients card.order) in
    let f : List ℤ → Read = λ bottom. with_denominator deck number (record { card = card; top = top; bottom = bottom }) top_line in
    go_ok P f (polynomial_card number line card.order deck.run.dt) (λ bottom is.
    let e : BlockEntry = record { card = card; top = top; bottom = bottom } in
    unless_ok P (divided_bad deck.run.dt e top_line number) (keep_block deck e) (with_blocks (at_rest deck) _ _ (waited (λ (b : BlockEntry). b.card.line) deck.control.blocks e)))

tacs_source_adds : (deck : Deck) (number : ℕ) (line : List ℕ) → IfOk (tacs_source_step deck number line) (Adds (at_rest deck) number (control_kind TacsSources line))
unfolding tacs_source_step
tacs_source_adds deck number line =
    let f : SourceCard → Read = λ card. Ok (with_tacs_source deck card, Control TacsSources) in
    by_test (at_rest deck) number (is_section_end line) (Ok (deck, Control Extras)) (go_on f (tacs_source_card number line)) read.SectionEnd read.TacsSource refl
    (go_ok (Adds (at_rest deck) number read.TacsSource) f (tacs_source_card number line)
    (λ card is. ap (λ (xs : List ℕ). record (at_rest deck) { tacs_sources = xs }) (mapped (λ (c : SourceCard). c.line) deck.control.sources card number (tacs_source_line number line card is))))

extra_kept : (deck : Deck) (number : ℕ) (e : ExtraEntry) → extra_line e ≡ number → Adds (at_rest deck) number read.Extra (keep_extra deck e)
extra_kept deck number e is = with_extras (at_rest deck) _ _ (kept extra_line deck.control.extras e number is)

device_taken : (deck : Deck) (number : ℕ) (card : DeviceCard) → card.line ≡ number → Adds (at_rest deck) number read.Extra (take_device deck card)
device_taken deck number card e = by_points (points_follow card.code)
  where
    group : DeviceGroup
    group = record { card = card; first = length deck.points; count = 0; before = None }

    by_points : (t : Bool) → Adds (at_rest deck) number read.Extra (if◌then◌else◌ {A = Deck × Place} t (deck, Control (DevicePoints group)) (keep_extra deck (DeviceEntry card 0 0)))
    by_points true = with_extras (at_rest deck) _ _ (waits (map extra_line deck.control.extras) card.line number e)
    by_points false = extra_kept deck number (DeviceEntry card 0 0) e

extra_taken : (deck : Deck) (number : ℕ) (card : ExtraCard) → line_of_extra card ≡ number → Adds (at_rest deck) number read.Extra (take_extra deck card)
extra_taken deck number (DeviceOf card) e = device_taken deck number card e
extra_taken deck number (FormulaOf card) e = extra_kept deck number (FormulaEntry card) e

extra_adds : (deck : Deck) (number : ℕ) (line : List ℕ) → IfOk (extra_step deck number line) (Adds (at_rest deck) number (control_kind Extras line))
unfolding extra_step
extra_adds deck number line =
    let f : ExtraCard → Read = λ card. Ok (take_extra deck card) in
    by_test (at_rest deck) number (is_section_end line) (Ok (deck, Control TacsOutputs)) (go_on f (extra_card number line)) read.SectionEnd read.Extra refl
    (go_ok (Adds (at_rest deck) number read.Extra) f (extra_card number line) (λ card is. extra_taken deck number card (extra_line_is number line card is)))

device_point_adds : (deck : Deck) (number : ℕ) (line : List ℕ) (group : DeviceGroup)
    → IfOk (device_point_step deck number line group) (Adds (lines_by_list deck (Control (DevicePoints group))) number (read.Point (device_scale group.card.code)))
unfolding device_point_step
device_point_adds deck number line group =
    go_ok (Adds (lines_by_list deck (Control (DevicePoints group))) number (read.Point (device_scale group.card.code))) _ (next_point number line (device_scale group.card.code) group.before group.count deck.run.dt) (λ point is. one point)
  where
    one : (point : Option Point) → Adds (lines_by_list deck (Control (DevicePoints group))) number (read.Point (device_scale group.card.code)) (device_point_or_end deck group point)
    one (Some point) = refl
    one None = with_extras (at_rest deck) _ _ (waited extra_line deck.control.extras (DeviceEntry group.card group.first group.count))

tacs_output_adds : (deck : Deck) (number : ℕ) (line : List ℕ) → IfOk (tacs_output_step deck number line) (Adds (at_rest deck) number (control_kind TacsOutputs line))
unfolding tacs_output_step
tacs_output_adds deck number line =
    let f : List (Option (List ℕ)) → Read = λ names. Ok (with_tacs_output deck number names, Control TacsOutputs) in
    by_test (at_rest deck) number (is_section_end line) (Ok (deck, Control Initial)) (go_on f (tacs_output_card number line)) read.SectionEnd read.TacsOutput refl
    (go_ok (Adds (at_rest deck) number read.TacsOutput) f (tacs_output_card number line)
    (λ names is. ap (λ (xs : List ℕ). record (at_rest deck) { tacs_outputs = xs }) (mapped (λ (e : TacsOutputEntry). e.line) deck.control.outputs (record { line = number; names = names }) number refl)))

initial_adds : (deck : Deck) (number : ℕ) (line : List ℕ) → IfOk (place_of deck (initial_place number line)) (Adds (at_rest deck) number (control_kind Initial line))
unfolding initial_place
initial_adds deck number line = placed deck (at_rest deck) number read.Initial (is_section_end line) (Branches false) (Branches false) (order_fault number line) refl refl

control_adds : (deck : Deck) (at : ControlPlace) (number : ℕ) (line : List ℕ) → IfOk (control_step deck number line at) (Adds (lines_by_list deck (Control at)) number (control_kind at line))
control_adds deck Blocks number line = block_adds deck number line
control_adds deck (Numerator card) number line = numerator_adds deck number line card
control_adds deck (Denominator card top top_line) number line = denominator_adds deck number line card top top_line
control_adds deck TacsSources number line = tacs_source_adds deck number line
control_adds deck Extras number line = extra_adds deck number line
control_adds deck (DevicePoints group) number line = device_point_adds deck number line group
control_adds deck TacsOutputs number line = tacs_output_adds deck number line
control_adds deck Initial number line = initial_adds deck number line

-- ---- branches

more_branches : (es : List BranchEntry) (e : BranchEntry) → branch_lines (es ++ e ∷ []) ≡ branch_lines es ++ entry_lines e
more_branches [] e = append-nil (entry_lines e)
more_branches (x ∷ xs) e = ap (λ ls. entry_lines x ++ ls) (more_branches xs e) ∙ sym (append_assoc (entry_lines x) (branch_lines xs) (entry_lines e))

-- with these lines behind those of the branches
abbrev pub with_more : Deck → List ℕ → CardLines
with_more deck more = record (at_rest deck) { branches = branch_lines deck.branches ++ more }

put : (deck : Deck) (e : BranchEntry) → at_rest (record deck { branches = deck.branches ++ e ∷ [] }) ≡ with_more deck (entry_lines e)
put deck e = with_branches (at_rest deck) _ _ (append-nil (branch_lines (deck.branches ++ e ∷ [])) ∙ more_branches deck.branches e)

copied_is : (deck : Deck) (card : BranchCard) (wide : Bool) (kind : BranchKind) → lines_by_list (take_copied deck card wide kind).0 (take_copied deck card wide kind).1 ≡ with_more deck (card.line ∷ [])
copied_is deck card wide LineKind = refl
copied_is deck card wide SeriesKind = put deck (Single card 0 0)
copied_is deck card wide SecondKind = put deck (Single card 0 0)
copied_is deck card wide ThirdKind = put deck (Single card 0 0)
copied_is deck card wide ReactorKind = put deck (Single card 0 0)
copied_is deck card wide ResistorKind = put deck (Single card 0 0)

values_are : (deck : Deck) (card : BranchCard) (wide : Bool) (values : BranchValues) → lines_by_list (take_values deck card wide values).0 (take_values deck card wide values).1 ≡ with_more deck (card.line ∷ [])
values_are deck card wide (LumpedCard r l c) = put deck (Single card 0 0)
values_are deck card wide (LineCard zc r delay) = refl
values_are deck card wide (SecondCard zc r delay) = put deck (Single card 0 0)
values_are deck card wide ThirdCard = put deck (Single card 0 0)
values_are deck card wide ReactorCard = refl
values_are deck card wide ResistorCard = refl
values_are deck card wide (CopiedCard kind a b) = copied_is deck card wide kind

card_adds : (deck : Deck) (number : ℕ) (line : List ℕ) (wide : Bool) → IfOk (card_step deck number line wide) (Adds (at_rest deck) number (read.Branch wide))
unfolding card_step
card_adds deck number line wide =
    let P = Adds (at_rest deck) number (read.Branch wide) in
    let f : BranchCard → Read = λ card. Ok (take_branch deck card wide) in
    if_ok P (is_phase (branches.kind_field line)) (unless (order_fault number line) (λ bad. bad) (Ok (deck, Branches wide))) (go_on f (branches.branch_card number line deck.run.dt wide))
    (misplaced P number line (deck, Branches wide))
    (go_ok P f (branches.branch_card number line deck.run.dt wide)
    (λ card is. values_are deck card wide card.values ∙ with_branches (at_rest deck) _ _ (waits (branch_lines deck.branches) card.line number (branch_line number line deck.run.dt wide card is))))

vintage_adds : (deck : Deck) (number : ℕ) (wide vintage : Bool) (width : Result Bool Bad) (card : Read) → IfOk card (Adds (at_rest deck) number (read.Branch wide))
    → IfOk (vintage_or deck (if vintage then Some width else None) card) (Adds (at_rest deck) number (if vintage then read.Vintage else read.Branch wide))
vintage_adds deck number wide true width card h = go_ok (Adds (at_rest deck) number read.Vintage) _ width (λ w is. refl)
vintage_adds deck number wide false width card h = h

branch_adds : (deck : Deck) (number : ℕ) (line : List ℕ) (wide : Bool) → IfOk (branch_step deck number line wide) (Adds (at_rest deck) number (branch_kind line wide))
unfolding branch_step
branch_adds deck number line wide =
    by_test (at_rest deck) number (is_section_end line) (Ok (deck, Switches)) (vintage_or deck (vintage_card number line) (card_step deck number line wide)) read.SectionEnd (reading.vintage_or line (read.Branch wide)) refl
    (vintage_adds deck number wide (is_vintage line) _ (card_step deck number line wide) (card_adds deck number line wide))

start_adds : (deck : Deck) (number : ℕ) (line : List ℕ) → IfOk (start_step deck number line) (Adds (at_rest deck) number (start_kind line))
unfolding start_step
start_adds deck number line =
    by_test (at_rest deck) number (starts_with nat_eq line (codes "TACS HYBRID")) (unless (judge number line None) (λ bad. bad) (Ok (deck, Control Blocks))) (branch_step deck number line false) read.Hybrid (branch_kind line false)
    (unless_ok (Adds (at_rest deck) number read.Hybrid) (judge number line None) (deck, Control Blocks) refl)
    (branch_adds deck number line false)

-- one line behind those that wait
one_more : (deck : Deck) (more : List ℕ) (n number : ℕ) → n ≡ number → with_more deck (more ++ n ∷ []) ≡ record (at_rest deck) { branches = (branch_lines deck.branches ++ more) ++ number ∷ [] }
one_more deck more n number e =
    with_branches (at_rest deck) _ _ (sym (append_assoc (branch_lines deck.branches) more (n ∷ [])) ∙ ap (λ (k : ℕ). (branch_lines deck.branches ++ more) ++ k ∷ []) e)

waiting_adds : (deck : Deck) (number : ℕ) (line : List ℕ) (card : BranchCard) (wide : Bool) → IfOk (waiting_step deck number line card wide) (Adds (with_more deck (card.line ∷ [])) number (waiting_kind line wide))
unfolding waiting_step
waiting_adds deck number line card wide =
    let lines = with_more deck (card.line ∷ []) in
    let f : BranchCard → Read = λ positive. Ok (deck, Third card positive wide) in
    by_test lines number (is_second (branches.kind_field line)) (go_on f (branches.branch_card number line deck.run.dt wide)) (branch_step (with_card deck card) number line wide) (read.Branch wide) (branch_kind line wide)
    (go_ok (Adds lines number (read.Branch wide)) f (branches.branch_card number line deck.run.dt wide) (λ positive is. one_more deck (card.line ∷ []) positive.line number (branch_line number line deck.run.dt wide positive is)))
    (through (at_rest (with_card deck card)) lines number (branch_kind line wide) (branch_step (with_card deck card) number line wide) (put deck (Single card 0 0)) (branch_adds (with_card deck card) number line wide))

taken_third : (deck : Deck) (number : ℕ) (line : List ℕ) (zero' positive : BranchCard) (wide : Bool) → IfOk (take_third deck number line zero' positive wide) (Adds (with_more deck (zero'.line ∷ positive.line ∷ [])) number (read.Branch wide))
taken_third deck number line zero' positive wide =
    go_ok (Adds (with_more deck (zero'.line ∷ positive.line ∷ [])) number (read.Branch wide)) _ (branches.branch_card number line deck.run.dt wide)
    (λ third is. put deck (Trio zero' positive third) ∙ one_more deck (zero'.line ∷ positive.line ∷ []) third.line number (branch_line number line deck.run.dt wide third is))

third_kind_adds : (deck : Deck) (number : ℕ) (line : List ℕ) (zero' positive : BranchCard) (wide : Bool) (kind : Result BranchKind Why)
    → IfOk (third_by deck number line zero' positive wide kind) (Adds (with_more deck (zero'.line ∷ positive.line ∷ [])) number (read.Branch wide))
third_kind_adds deck number line zero' positive wide kind = by_kind kind
  where
    P : Deck × Place → Type 0
    P next = Adds (with_more deck (zero'.line ∷ positive.line ∷ [])) number (read.Branch wide) next

    other : IfOk (unless (order_fault number line) (λ bad. bad) (Ok (deck, Branches wide))) P
    other = misplaced P number line (deck, Branches wide)

    by_kind : (kind : Result BranchKind Why) → IfOk (third_by deck number line zero' positive wide kind) P
    by_kind (Ok SeriesKind) = other
    by_kind (Ok LineKind) = other
    by_kind (Ok SecondKind) = other
    by_kind (Ok ThirdKind) = taken_third deck number line zero' positive wide
    by_kind (Ok ReactorKind) = other
    by_kind (Ok ResistorKind) = other
    by_kind (Err why) = if_ok P (is_vintage line) (unless (order_fault number line) (λ bad. bad) (Ok (deck, Branches wide))) (take_third deck number line zero' positive wide) other (taken_third deck number line zero' positive wide)

third_adds : (deck : Deck) (number : ℕ) (line : List ℕ) (zero' positive : BranchCard) (wide : Bool) → IfOk (third_step deck number line zero' positive wide) (Adds (with_more deck (zero'.line ∷ positive.line ∷ [])) number (read.Branch wide))
unfolding third_step
third_adds deck number line zero' positive wide =
    let bad : Bad = record { line = number; column = 1; why = BadOrder } in
    if_ok (Adds (with_more deck (zero'.line ∷ positive.line ∷ [])) number (read.Branch wide)) (is_section_end line) (Err bad) (third_by deck number line zero' positive wide (branches.kind_field line)) tt
    (third_kind_adds deck number line zero' positive wide (branches.kind_field line))

point_adds : (deck : Deck) (number : ℕ) (line : List ℕ) (group : Group) → IfOk (point_step deck number line group) (Adds (with_more deck (group.card.line ∷ [])) number (read.Point (scale_of group)))
unfolding point_step
point_adds deck number line group =
    go_ok (Adds (with_more deck (group.card.line ∷ [])) number (read.Point (scale_of group))) _ (next_point number line (scale_of group) group.before group.count deck.run.dt) (λ point is. one point)
  where
    one : (point : Option Point) → Adds (with_more deck (group.card.line ∷ [])) number (read.Point (scale_of group)) (point_or_end deck group point)
    one (Some point) = refl
    one None = put deck (Single group.card group.first group.count)

-- ---- switches, sources, outputs

switch_adds : (deck : Deck) (number : ℕ) (line : List ℕ) → IfOk (switch_step deck number line) (Adds (at_rest deck) number (card_kind Switches line))
unfolding switch_step
switch_adds deck number line =
    let f : SwitchCard → Read = λ card. Ok (record deck { switches = deck.switches ++ card ∷ [] }, Switches) in
    by_test (at_rest deck) number (is_section_end line) (Ok (deck, Sources)) (go_on f (switches.switch_card number line)) read.SectionEnd read.Switch refl
    (go_ok (Adds (at_rest deck) number read.Switch) f (switches.switch_card number line)
    (λ card is. ap (λ (xs : List ℕ). record (at_rest deck) { switches = xs }) (mapped (λ (c : SwitchCard). c.line) deck.switches card number (switch_line number line card is))))

source_adds : (deck : Deck) (number : ℕ) (line : List ℕ) → IfOk (source_step deck number line) (Adds (at_rest deck) number (card_kind Sources line))
unfolding source_step
source_adds deck number line =
    let f : SourceCard → Read = λ card. Ok (record deck { sources = deck.sources ++ card ∷ [] }, Sources) in
    by_test (at_rest deck) number (is_section_end line) (Ok (deck, Outputs)) (go_on f (sources.source_card number line)) read.SectionEnd read.Source refl
    (go_ok (Adds (at_rest deck) number read.Source) f (sources.source_card number line)
    (λ card is. ap (λ (xs : List ℕ). record (at_rest deck) { sources = xs }) (mapped (λ (c : SourceCard). c.line) deck.sources card number (source_line number line card is))))

output_adds : (deck : Deck) (number : ℕ) (line : List ℕ) → IfOk (output_step deck number line) (Adds (at_rest deck) number (card_kind Outputs line))
unfolding output_step
output_adds deck number line =
    let f : OutputCard → Read = λ card. Ok (record deck { outputs = deck.outputs ++ (record { line = number; card = card }) ∷ [] }, Outputs) in
    by_test (at_rest deck) number (is_section_end line) (Ok (deck, After false)) (go_on f (output_card number line)) read.SectionEnd read.Output refl
    (go_ok (Adds (at_rest deck) number read.Output) f (output_card number line)
    (λ card is. ap (λ (xs : List ℕ). record (at_rest deck) { outputs = xs }) (mapped (λ (e : OutputEntry). e.line) deck.outputs (record { line = number; card = card }) number refl)))

-- ---- all places

step_adds : (deck : Deck) (place : Place) (number : ℕ) (line : List ℕ) → IfOk (step deck place number line) (Adds (lines_by_list deck place) number (card_kind place line))
step_adds deck Begin number line = begin_adds deck number line
step_adds deck (First seen) number line = first_adds deck number line seen
step_adds deck Second number line = second_adds deck number line
step_adds deck Start number line = start_adds deck number line
step_adds deck (Control at) number line = control_adds deck at number line
step_adds deck (Branches wide) number line = branch_adds deck number line wide
step_adds deck (Points group) number line = point_adds deck number line group
step_adds deck (Waiting card wide) number line = waiting_adds deck number line card wide
step_adds deck (Third zero' positive wide) number line = third_adds deck number line zero' positive wide
step_adds deck Switches number line = switch_adds deck number line
step_adds deck Sources number line = source_adds deck number line
step_adds deck Outputs number line = output_adds deck number line
step_adds deck (After seen) number line = after_adds deck number line seen

line_adds : (deck : Deck) (place : Place) (number : ℕ) (line : List ℕ) → IfOk (advance deck place number line) (Adds (lines_by_list deck place) number (kind_at place line))
line_adds deck place number line = by_test (lines_by_list deck place) number (is_comment line) (Ok (deck, place)) (step deck place number line) read.Comment (card_kind place line) refl (step_adds deck place number line)

-- ---- all lines

-- the cards at the end are those before and those that are read, and so many lines are read
pub record ReadsOn (before : CardLines) (number lines : ℕ) (readings : List LineReading) (end : Deck × Place) : Type 0 where
  pub count : length readings ≡ suc lines
  pub cards : lines_by_list end.0 end.1 ≡ cards_read before number (take lines readings)

abbrev pub WalksOn : ℕ → Deck → Place → List (List ℕ) → Type 0
WalksOn number deck place lines = IfOk (walk number deck place lines) (ReadsOn (lines_by_list deck place) number (length lines) (readings_from number deck place lines))

behind_line : (number : ℕ) (before : CardLines) (here : LineReading) (lines : List (List ℕ)) (r : Read) → IfOk r (Adds before number here.kind)
    → ((deck : Deck) (place : Place) → WalksOn (number + 1) deck place lines)
    → IfOk (go_on (λ (next : Deck × Place). walk (number + 1) next.0 next.1 lines) r)
    (ReadsOn before number (suc (length lines)) (here ∷ unless_refused (λ (next : Deck × Place). readings_from (number + 1) next.0 next.1 lines) r))
behind_line number before here lines (Err bad) h rest = tt
behind_line number before here lines (Ok next) h rest = whole (walk (number + 1) next.0 next.1 lines) (rest next.0 next.1)
  where
    behind : List LineReading
    behind = readings_from (number + 1) next.0 next.1 lines

    whole : (r : Read) → IfOk r (ReadsOn (lines_by_list next.0 next.1) (number + 1) (length lines) behind) → IfOk r (ReadsOn before number (suc (length lines)) (here ∷ behind))
    whole (Err bad) k = tt
    whole (Ok end) k = record { count = ap suc k.count; cards = k.cards ∙ ap (λ (cards : CardLines). cards_read cards (number + 1) (take (length lines) behind)) h }

walks_on : (lines : List (List ℕ)) (number : ℕ) (deck : Deck) (place : Place) → WalksOn number deck place lines
walks_on [] number deck place = record { count = refl; cards = refl }
walks_on (line ∷ lines) number deck place =
    behind_line number (lines_by_list deck place) (line_reading number place line) lines (advance deck place number line) (line_adds deck place number line) (walks_on lines (number + 1))

holds : {A : Type 0} (P : A → Type 0) (r : Result A Bad) (x : A) → IfOk r P → r ≡ Ok x → P x
holds P (Ok y) x h e = let same : y ≡ x = cc in subst P same h
holds P (Err bad) x h e = absurd (cc)

pub are_read : (lines : List (List ℕ)) (deck : Deck) (place : Place) → walk 1 empty_deck Begin lines ≡ Ok (deck, place) → AreRead lines deck place
are_read lines deck place e =
    let all = holds (ReadsOn no_cards 1 (length lines) (line_readings lines)) (walk 1 empty_deck Begin lines) (deck, place) (walks_on lines 1 empty_deck Begin) e in
    record { count = all.count ∙ omega arith; cards = all.cards }
