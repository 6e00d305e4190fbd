-- The cards of the control stand in the order of their lines.
use Rattle.std.proofs.Common.{◌∙◌, sym, ap, subst, refl, ℕ, ◌+◌, ℤ, Bool, true, false, List, [], ◌∷◌, ◌++◌, length, Option, Some, None, Ok, arith, append_assoc}
use Rattle.std.specs.Prelude.{IfOk, if◌then◌else◌, map, pos, replicate, ◌==◌}
use Rattle.std.proofs.lemmas.List.{append-nil, map-append}
use Rattle.emtp_fix.specs.Chain.{unless}
use Rattle.emtp_card.specs.Lines.{is_section_end}
use Rattle.emtp_case.specs.declared.branch.Point.{Point}
use Rattle.emtp_walk.specs.Answer.{go_on}
use Rattle.emtp_walk.specs.Coefficients.{divided_bad}
use Rattle.emtp_walk.specs.ControlSteps.{block_step, control_step, denominator_step, device_point_or_end, device_point_step, device_scale, extra_step, initial_place, keep_block, keep_extra, numerator_step, points_follow, tacs_output_step, tacs_source_step, take_block, take_device, take_extra, with_denominator, with_tacs_output, with_tacs_source}
use Rattle.emtp_walk.specs.Laws.{Rises, control_lines, extra_line}
use Rattle.emtp_walk.specs.LineRead.{Read, order_fault}
use Rattle.emtp_walk.specs.declared.control_cards.BlockEntry.{BlockEntry}
use Rattle.emtp_walk.specs.declared.control_cards.ControlPlace.{ControlPlace}
use Rattle.emtp_walk.specs.declared.control_cards.ControlPlace.TheVariants.{Blocks, Denominator, DevicePoints, Extras, Initial, Numerator, TacsOutputs, TacsSources}
use Rattle.emtp_walk.specs.declared.control_cards.DeviceGroup.{DeviceGroup}
use Rattle.emtp_walk.specs.declared.control_cards.ExtraEntry.{ExtraEntry}
use Rattle.emtp_walk.specs.declared.control_cards.ExtraEntry.TheVariants.{Device as DeviceEntry, Formula as FormulaEntry}
use Rattle.emtp_walk.specs.declared.control_cards.TacsOutputEntry.{TacsOutputEntry}
use Rattle.emtp_taccards.specs.BlockCard.{block_card}
use Rattle.emtp_taccards.specs.ExtraCard.{extra_card}
use Rattle.emtp_taccards.specs.PolynomialCard.{polynomial_card}
use Rattle.emtp_taccards.specs.TacsOutputCard.{tacs_output_card}
use Rattle.emtp_taccards.specs.TacsSourceCard.{tacs_source_card}
use Rattle.emtp_taccards.specs.declared.block_card.BlockCard.{BlockCard}
use Rattle.emtp_taccards.specs.declared.device_card.DeviceCard.{DeviceCard}
use Rattle.emtp_taccards.specs.declared.extra_card.ExtraCard.{ExtraCard}
use Rattle.emtp_taccards.specs.declared.extra_card.ExtraCard.TheVariants.{Device as DeviceOf, Formula as FormulaOf}
use Rattle.emtp_walk.proofs.ControlLines.{block_line, extra_line_is, line_of_extra, tacs_source_line}
use Rattle.emtp_netcards.specs.PointCard.{next_point}
use Rattle.emtp_walk.specs.declared.deck.Deck.{Deck}
use Rattle.emtp_walk.specs.declared.deck.Place.{Place}
use Rattle.emtp_walk.specs.declared.deck.Place.TheVariants.{Branches, Control}
use Rattle.emtp_netcards.specs.declared.source_card.SourceCard.{SourceCard}
use Rattle.emtp_walk.proofs.Rising.{later, behind, if_ok, go_ok, unless_ok, IsAmongBranches, block_lines, signal_lines, extra_lines, IsAmongBlocks, IsAmongSignals, IsAmongExtras, IsAmongTacsOutputs, IsAmongControl, InOrder, Orders, blocks_later, extras_later, tacs_outputs_later, placed}

-- a block whose line is the last one
put_block : (deck : Deck) (e : BlockEntry) (number : ℕ) → IsAmongBlocks deck (e.card.line ∷ []) number → Orders number (keep_block deck e)
put_block deck e number h = record {
  early = record { switches = h.early.switches; sources = h.early.sources; outputs = h.early.outputs };
  branches = h.branches;
  signals = h.signals;
  extras = h.extras;
  outputs = h.outputs;
  rises = subst (λ ls. Rises (deck.second + 1) ls number)
      (sym (append-nil (map (λ (x : BlockEntry). x.card.line) (deck.control.blocks ++ e ∷ [])) ∙ map-append (λ (x : BlockEntry). x.card.line) deck.control.blocks (e ∷ []))) h.rises;
}

taken_block : (deck : Deck) (card : BlockCard) (number : ℕ) → IsAmongBlocks deck (card.line ∷ []) number → Orders number (take_block deck card)
taken_block deck card number h = by_test (card.order == 0)
  where
    zeros : BlockEntry
    zeros = record { card = card; top = replicate 8 (pos 0); bottom = replicate 8 (pos 0) }

    by_test : (t : Bool) → Orders number (if◌then◌else◌ {A = Deck × Place} t (keep_block deck zeros) (deck, Control (Numerator card)))
    by_test true = put_block deck zeros number h
    by_test false = h

block_order : (deck : Deck) (number : ℕ) (line : List ℕ) → IsAmongBlocks deck [] number → IfOk (block_step deck number line) (Orders (number + 1))
unfolding block_step
block_order deck number line h =
    let low = deck.second + 1 in
    let next = later low (block_lines deck ++ []) number (number + 1) (omega arith) h.rises in
    let f : BlockCard → Read = λ card. Ok (take_block deck card) in
    if_ok (Orders (number + 1)) (is_section_end line) (Ok (deck, Control TacsSources)) (go_on f (block_card number line))
    (record { early = h.early; branches = h.branches; extras = h.extras; outputs = h.outputs; rises = rw h.signals next })
    (go_ok (Orders (number + 1)) f (block_card number line) (λ card is. taken_block deck card (number + 1) (record {
      early = h.early;
      branches = h.branches;
      signals = h.signals;
      extras = h.extras;
      outputs = h.outputs;
      rises = behind low (block_lines deck) [] card.line number (block_line number line card is) h.rises;
    })))

numerator_order : (deck : Deck) (number : ℕ) (line : List ℕ) (card : BlockCard) → IsAmongBlocks deck (card.line ∷ []) number → IfOk (numerator_step deck number line card) (Orders (number + 1))
unfolding numerator_step
numerator_order deck number line card h = go_ok (Orders (number + 1)) _ (polynomial_card number line card.order deck.run.dt) (λ top is. blocks_later deck (card.line ∷ []) number h)

denominator_order : (deck : Deck) (number : ℕ) (line : List ℕ) (card : BlockCard) (top : List ℤ) (top_line : ℕ) → IsAmongBlocks deck (card.line ∷ []) number → IfOk (denominator_step deck number line card top top_line) (Orders (number + 1))
unfolding denominator_step
denominator_order deck number line card top top_line h =
    let f : List ℤ → Read = λ bottom. with_denominator deck number (record { card = card; top = top; bottom = bottom }) top_line in
    go_ok (Orders (number + 1)) f (polynomial_card number line card.order deck.run.dt) (λ bottom is.
    let e : BlockEntry = record { card = card; top = top; bottom = bottom } in
    unless_ok (Orders (number + 1)) (divided_bad deck.run.dt e top_line number) (keep_block deck e) (put_block deck e (number + 1) (blocks_later deck (card.line ∷ []) number h)))

signal_order : (deck : Deck) (number : ℕ) (line : List ℕ) → IsAmongSignals deck number → IfOk (tacs_source_step deck number line) (Orders (number + 1))
unfolding tacs_source_step
signal_order deck number line h =
    let low = deck.second + 1 in
    let before = block_lines deck in
    let next = later low (before ++ signal_lines deck) number (number + 1) (omega arith) h.rises in
    let f : SourceCard → Read = λ card. Ok (with_tacs_source deck card, Control TacsSources) in
    if_ok (Orders (number + 1)) (is_section_end line) (Ok (deck, Control Extras)) (go_on f (tacs_source_card number line))
    (record {
      early = h.early;
      branches = h.branches;
      outputs = h.outputs;
      rises = rw h.extras (subst (λ ls. Rises low ls (number + 1)) (sym (append-nil (before ++ signal_lines deck ++ []) ∙ append-nil (before ++ signal_lines deck))) next);
    })
    (go_ok (Orders (number + 1)) f (tacs_source_card number line) (λ card is. record {
      early = record { switches = h.early.switches; sources = h.early.sources; outputs = h.early.outputs };
      branches = h.branches;
      extras = h.extras;
      outputs = h.outputs;
      rises = subst (λ ls. Rises low (before ++ ls) (number + 1)) (sym (map-append (λ (c : SourceCard). c.line) deck.control.sources (card ∷ [])))
          (behind low before (signal_lines deck) card.line number (tacs_source_line number line card is) h.rises);
    }))

-- a supplemental card whose line is the last one
put_extra : (deck : Deck) (e : ExtraEntry) (number : ℕ) → IsAmongExtras deck (extra_line e ∷ []) number → Orders number (keep_extra deck e)
put_extra deck e number h =
    let before = block_lines deck ++ signal_lines deck in
    record {
      early = record { switches = h.early.switches; sources = h.early.sources; outputs = h.early.outputs };
      branches = h.branches;
      outputs = h.outputs;
      rises = subst (λ ls. Rises (deck.second + 1) ls number)
          (sym (append-nil (before ++ map extra_line (deck.control.extras ++ e ∷ [])) ∙ ap (λ ls. before ++ ls) (map-append extra_line deck.control.extras (e ∷ [])) ∙ sym (append_assoc before (extra_lines deck) (extra_line e ∷ [])))) h.rises;
    }

taken_device : (deck : Deck) (card : DeviceCard) (number : ℕ) → IsAmongExtras deck (card.line ∷ []) number → Orders number (take_device deck card)
taken_device deck card number h = by_test (points_follow card.code)
  where
    group : DeviceGroup
    group = record { card = card; first = length deck.points; count = 0; before = None }

    by_test : (t : Bool) → Orders number (if◌then◌else◌ {A = Deck × Place} t (deck, Control (DevicePoints group)) (keep_extra deck (DeviceEntry card 0 0)))
    by_test true = h
    by_test false = put_extra deck (DeviceEntry card 0 0) number h

taken_extra : (deck : Deck) (card : ExtraCard) (number : ℕ) → IsAmongExtras deck (line_of_extra card ∷ []) number → Orders number (take_extra deck card)
taken_extra deck (DeviceOf card) number h = taken_device deck card number h
taken_extra deck (FormulaOf card) number h = put_extra deck (FormulaEntry card) number h

extra_order : (deck : Deck) (number : ℕ) (line : List ℕ) → IsAmongExtras deck [] number → IfOk (extra_step deck number line) (Orders (number + 1))
unfolding extra_step
extra_order deck number line h =
    let low = deck.second + 1 in
    let before = block_lines deck ++ signal_lines deck ++ extra_lines deck in
    let next = later low (before ++ []) number (number + 1) (omega arith) h.rises in
    let f : ExtraCard → Read = λ card. Ok (take_extra deck card) in
    if_ok (Orders (number + 1)) (is_section_end line) (Ok (deck, Control TacsOutputs)) (go_on f (extra_card number line))
    (record { early = h.early; branches = h.branches; rises = rw h.outputs next })
    (go_ok (Orders (number + 1)) f (extra_card number line) (λ card is. taken_extra deck card (number + 1) (record {
      early = h.early;
      branches = h.branches;
      outputs = h.outputs;
      rises = behind low before [] (line_of_extra card) number (extra_line_is number line card is) h.rises;
    })))

device_point_order : (deck : Deck) (number : ℕ) (line : List ℕ) (group : DeviceGroup) → IsAmongExtras deck (group.card.line ∷ []) number → IfOk (device_point_step deck number line group) (Orders (number + 1))
unfolding device_point_step
device_point_order deck number line group h =
    let f : Option Point → Read = λ point. Ok (device_point_or_end deck group point) in
    go_ok (Orders (number + 1)) f (next_point number line (device_scale group.card.code) group.before group.count deck.run.dt) (λ point is. one point)
  where
    one : (point : Option Point) → Orders (number + 1) (device_point_or_end deck group point)
    one (Some point) = record {
      early = record { switches = h.early.switches; sources = h.early.sources; outputs = h.early.outputs };
      branches = h.branches;
      outputs = h.outputs;
      rises = later (deck.second + 1) (block_lines deck ++ signal_lines deck ++ extra_lines deck ++ group.card.line ∷ []) number (number + 1) (omega arith) h.rises;
    }
    one None = put_extra deck (DeviceEntry group.card group.first group.count) (number + 1) (extras_later deck (group.card.line ∷ []) number h)

tacs_output_order : (deck : Deck) (number : ℕ) (line : List ℕ) → IsAmongTacsOutputs deck number → IfOk (tacs_output_step deck number line) (Orders (number + 1))
unfolding tacs_output_step
tacs_output_order deck number line h =
    let low = deck.second + 1 in
    let before = block_lines deck ++ signal_lines deck ++ extra_lines deck in
    let lines = map (λ (e : TacsOutputEntry). e.line) deck.control.outputs in
    let f : List (Option (List ℕ)) → Read = λ names. Ok (with_tacs_output deck number names, Control TacsOutputs) in
    if_ok (Orders (number + 1)) (is_section_end line) (Ok (deck, Control Initial)) (go_on f (tacs_output_card number line))
    (tacs_outputs_later deck number h)
    (go_ok (Orders (number + 1)) f (tacs_output_card number line) (λ names is. record {
      early = record { switches = h.early.switches; sources = h.early.sources; outputs = h.early.outputs };
      branches = h.branches;
      rises = subst (λ ls. Rises low (before ++ ls) (number + 1)) (sym (map-append (λ (e : TacsOutputEntry). e.line) deck.control.outputs ((record { line = number; names = names }) ∷ [])))
          (behind low before lines number number refl h.rises);
    }))

-- the branches come after it
pub branches_next : (deck : Deck) (number : ℕ) → IsAmongTacsOutputs deck number → IsAmongBranches deck [] number
branches_next deck number h = record {
  early = h.early;
  rises = rw h.branches (subst (λ ls. Rises (deck.second + 1) ls number) (sym (append-nil (control_lines deck.control ++ []) ∙ append-nil (control_lines deck.control))) h.rises);
}

initial_order : (deck : Deck) (number : ℕ) (line : List ℕ) → IsAmongTacsOutputs deck number → IfOk (initial_place number line) (λ place. InOrder (number + 1) deck place)
unfolding initial_place
initial_order deck number line h =
    let next = branches_next deck (number + 1) (tacs_outputs_later deck number h) in
    if_ok (λ (place : Place). InOrder (number + 1) deck place) (is_section_end line) (Ok (Branches false)) (unless (order_fault number line) (λ bad. bad) (Ok (Branches false))) next
    (unless_ok (λ (place : Place). InOrder (number + 1) deck place) (order_fault number line) (Branches false) next)

pub control_order : (deck : Deck) (at : ControlPlace) (number : ℕ) (line : List ℕ) → IsAmongControl number deck at → IfOk (control_step deck number line at) (Orders (number + 1))
control_order deck Blocks number line h = block_order deck number line h
control_order deck (Numerator card) number line h = numerator_order deck number line card h
control_order deck (Denominator card top top_line) number line h = denominator_order deck number line card top top_line h
control_order deck TacsSources number line h = signal_order deck number line h
control_order deck Extras number line h = extra_order deck number line h
control_order deck (DevicePoints group) number line h = device_point_order deck number line group h
control_order deck TacsOutputs number line h = tacs_output_order deck number line h
control_order deck Initial number line h = placed deck (number + 1) (initial_place number line) (initial_order deck number line h)
