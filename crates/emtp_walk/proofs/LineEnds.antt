-- Blanks at the ends of lines don't matter.
use Rattle.std.proofs.Common.{◌≡◌, ◌∙◌, sym, ap, refl, ℕ, Bool, List, [], ◌∷◌, length, Result, Ok, Err}
use Rattle.std.specs.Prelude.{ℤ, codes, map}
use Rattle.emtp_card.specs.Field.{without_trailing}
use Rattle.emtp_card.specs.declared.reason.Why.{Why}
use Rattle.emtp_card.proofs.LineEnds.{AreReadAlike, trailing-alike}
use Rattle.emtp_walk.specs.ControlSteps.{block_step, control_step, denominator_step, device_point_step, extra_step, initial_place, numerator_step, tacs_output_step, tacs_source_step}
use Rattle.emtp_walk.specs.Walk.{advance, after_place, begin_place, branch_step, card_step, empty_deck, first_step, output_step, point_step, second_step, source_step, start_step, step, switch_step, third_by, third_step, times_step, tolerance_step, waiting_step, walk}
use Rattle.emtp_walk.specs.declared.control_cards.ControlPlace.{ControlPlace}
use Rattle.emtp_walk.specs.declared.control_cards.ControlPlace.TheVariants.{Blocks, Denominator, DevicePoints, Extras, Initial, Numerator, TacsOutputs, TacsSources}
use Rattle.emtp_walk.specs.declared.control_cards.DeviceGroup.{DeviceGroup}
use Rattle.emtp_walk.specs.declared.deck.Deck.{Deck}
use Rattle.emtp_walk.specs.declared.deck.Group.{Group}
use Rattle.emtp_walk.specs.declared.deck.Place.{Place}
use Rattle.emtp_walk.specs.declared.deck.Place.TheVariants.{After, Begin, Branches, Control, First, Outputs, Points, Second, Sources, Start, Switches, Third, Waiting}
use Rattle.emtp_walk.proofs.SameSteps.{AreSameSteps, same_length, same_walk}
use Rattle.emtp_netcards.specs.declared.branch_card.BranchCard.{BranchCard}
use Rattle.emtp_netcards.specs.declared.branch_card.BranchKind.{BranchKind}
use Rattle.emtp_netcards.specs.declared.branch_card.BranchKind.TheVariants.{Line as LineKind, Reactor as ReactorKind, Resistor as ResistorKind, Second as SecondKind, Series as SeriesKind, Third as ThirdKind}
use Rattle.emtp_netcards.proofs.LineEnds.{branch_card_alike, first_card_alike, is_vintage_alike, output_card_alike, point_alike, second_card_alike, source_card_alike, switch_card_alike, tolerance_alike, vintage_alike}
use Rattle.emtp_taccards.specs.declared.block_card.BlockCard.{BlockCard}
use Rattle.emtp_taccards.proofs.LineEnds.{block_card_alike, extra_card_alike, polynomial_alike, tacs_output_alike, tacs_source_alike}

module _ (x y : List ℕ) (h : AreReadAlike x y) where
  -- ---- in front of the sections and behind them

  begin_alike : (number : ℕ) → begin_place number x ≡ begin_place number y
  unfolding begin_place
  begin_alike number = let begins = h.begins (codes "BEGIN NEW DATA CASE") refl in simp (begins, h.section_end, h.fault)

  after_alike : (number : ℕ) (seen : Bool) → after_place number x seen ≡ after_place number y seen
  unfolding after_place
  after_alike number seen = let begins = h.begins (codes "BEGIN NEW DATA CASE") refl in simp (begins, h.section_end, h.fault)

  tolerance_step_alike : (deck : Deck) (number : ℕ) (seen : Bool) → tolerance_step deck number x seen ≡ tolerance_step deck number y seen
  unfolding tolerance_step
  tolerance_step_alike deck number seen = simp (h.fault, tolerance_alike x y h)

  times_step_alike : (deck : Deck) (number : ℕ) → times_step deck number x ≡ times_step deck number y
  unfolding times_step
  times_step_alike deck number = simp (first_card_alike x y h)

  first_step_alike : (deck : Deck) (number : ℕ) (seen : Bool) → first_step deck number x seen ≡ first_step deck number y seen
  unfolding first_step
  first_step_alike deck number seen = let begins = h.begins (codes "RESIDUAL TOLERANCE") refl in simp (begins, tolerance_step_alike, times_step_alike)

  second_step_alike : (deck : Deck) (number : ℕ) → second_step deck number x ≡ second_step deck number y
  unfolding second_step
  second_step_alike deck number = simp (second_card_alike x y h)

  -- ---- branches

  card_step_alike : (deck : Deck) (number : ℕ) (wide : Bool) → card_step deck number x wide ≡ card_step deck number y wide
  unfolding card_step
  card_step_alike deck number wide = simp (h.whole, h.fault, branch_card_alike x y h)

  branch_step_alike : (deck : Deck) (number : ℕ) (wide : Bool) → branch_step deck number x wide ≡ branch_step deck number y wide
  unfolding branch_step
  branch_step_alike deck number wide = simp (h.section_end, vintage_alike x y h, card_step_alike)

  waiting_step_alike : (deck : Deck) (number : ℕ) (card : BranchCard) (wide : Bool) → waiting_step deck number x card wide ≡ waiting_step deck number y card wide
  unfolding waiting_step
  waiting_step_alike deck number card wide = simp (h.whole, branch_card_alike x y h, branch_step_alike)

  third_by_alike : (deck : Deck) (number : ℕ) (zero' positive : BranchCard) (wide : Bool) (kind : Result BranchKind Why) → third_by deck number x zero' positive wide kind ≡ third_by deck number y zero' positive wide kind
  third_by_alike deck number zero' positive wide (Ok SeriesKind) = simp h.fault
  third_by_alike deck number zero' positive wide (Ok LineKind) = simp h.fault
  third_by_alike deck number zero' positive wide (Ok SecondKind) = simp h.fault
  third_by_alike deck number zero' positive wide (Ok ThirdKind) = simp (branch_card_alike x y h)
  third_by_alike deck number zero' positive wide (Ok ReactorKind) = simp h.fault
  third_by_alike deck number zero' positive wide (Ok ResistorKind) = simp h.fault
  third_by_alike deck number zero' positive wide (Err why) = simp (is_vintage_alike x y h, h.fault, branch_card_alike x y h)

  third_step_alike : (deck : Deck) (number : ℕ) (zero' positive : BranchCard) (wide : Bool) → third_step deck number x zero' positive wide ≡ third_step deck number y zero' positive wide
  unfolding third_step
  third_step_alike deck number zero' positive wide = simp (h.section_end, h.whole, third_by_alike)

  point_step_alike : (deck : Deck) (number : ℕ) (group : Group) → point_step deck number x group ≡ point_step deck number y group
  unfolding point_step
  point_step_alike deck number group = simp (point_alike x y h)

  start_step_alike : (deck : Deck) (number : ℕ) → start_step deck number x ≡ start_step deck number y
  unfolding start_step
  start_step_alike deck number = let begins = h.begins (codes "TACS HYBRID") refl in simp (begins, h.fault, branch_step_alike)

  -- ---- switches, sources, outputs

  switch_step_alike : (deck : Deck) (number : ℕ) → switch_step deck number x ≡ switch_step deck number y
  unfolding switch_step
  switch_step_alike deck number = simp (h.section_end, switch_card_alike x y h)

  source_step_alike : (deck : Deck) (number : ℕ) → source_step deck number x ≡ source_step deck number y
  unfolding source_step
  source_step_alike deck number = simp (h.section_end, source_card_alike x y h)

  output_step_alike : (deck : Deck) (number : ℕ) → output_step deck number x ≡ output_step deck number y
  unfolding output_step
  output_step_alike deck number = simp (h.section_end, output_card_alike x y h)

  -- ---- the control

  block_step_alike : (deck : Deck) (number : ℕ) → block_step deck number x ≡ block_step deck number y
  unfolding block_step
  block_step_alike deck number = simp (h.section_end, block_card_alike x y h)

  numerator_alike : (deck : Deck) (number : ℕ) (card : BlockCard) → numerator_step deck number x card ≡ numerator_step deck number y card
  unfolding numerator_step
  numerator_alike deck number card = simp (polynomial_alike x y h)

  denominator_alike : (deck : Deck) (number : ℕ) (card : BlockCard) (top : List ℤ) (line : ℕ) → denominator_step deck number x card top line ≡ denominator_step deck number y card top line
  unfolding denominator_step
  denominator_alike deck number card top line = simp (polynomial_alike x y h)

  tacs_source_step_alike : (deck : Deck) (number : ℕ) → tacs_source_step deck number x ≡ tacs_source_step deck number y
  unfolding tacs_source_step
  tacs_source_step_alike deck number = simp (h.section_end, tacs_source_alike x y h)

  extra_step_alike : (deck : Deck) (number : ℕ) → extra_step deck number x ≡ extra_step deck number y
  unfolding extra_step
  extra_step_alike deck number = simp (h.section_end, extra_card_alike x y h)

  device_point_alike : (deck : Deck) (number : ℕ) (group : DeviceGroup) → device_point_step deck number x group ≡ device_point_step deck number y group
  unfolding device_point_step
  device_point_alike deck number group = simp (point_alike x y h)

  tacs_output_step_alike : (deck : Deck) (number : ℕ) → tacs_output_step deck number x ≡ tacs_output_step deck number y
  unfolding tacs_output_step
  tacs_output_step_alike deck number = simp (h.section_end, tacs_output_alike x y h)

  initial_alike : (number : ℕ) → initial_place number x ≡ initial_place number y
  unfolding initial_place
  initial_alike number = simp (h.section_end, h.fault)

  control_step_alike : (deck : Deck) (number : ℕ) (at : ControlPlace) → control_step deck number x at ≡ control_step deck number y at
  control_step_alike deck number Blocks = block_step_alike deck number
  control_step_alike deck number (Numerator card) = numerator_alike deck number card
  control_step_alike deck number (Denominator card top line) = denominator_alike deck number card top line
  control_step_alike deck number TacsSources = tacs_source_step_alike deck number
  control_step_alike deck number Extras = extra_step_alike deck number
  control_step_alike deck number (DevicePoints group) = device_point_alike deck number group
  control_step_alike deck number TacsOutputs = tacs_output_step_alike deck number
  control_step_alike deck number Initial = simp initial_alike

  -- ---- all lines

  step_alike : (deck : Deck) (place : Place) (number : ℕ) → step deck place number x ≡ step deck place number y
  step_alike deck Begin number = simp begin_alike
  step_alike deck (First seen) number = first_step_alike deck number seen
  step_alike deck Second number = second_step_alike deck number
  step_alike deck Start number = start_step_alike deck number
  step_alike deck (Control at) number = control_step_alike deck number at
  step_alike deck (Branches wide) number = branch_step_alike deck number wide
  step_alike deck (Points group) number = point_step_alike deck number group
  step_alike deck (Waiting card wide) number = waiting_step_alike deck number card wide
  step_alike deck (Third zero' positive wide) number = third_step_alike deck number zero' positive wide
  step_alike deck Switches number = switch_step_alike deck number
  step_alike deck Sources number = source_step_alike deck number
  step_alike deck Outputs number = output_step_alike deck number
  step_alike deck (After seen) number = simp after_alike

  advance_alike : (deck : Deck) (place : Place) (number : ℕ) → advance deck place number x ≡ advance deck place number y
  advance_alike deck place number = simp (h.comment, step_alike)

trimmed_steps : (lines : List (List ℕ)) → AreSameSteps lines (map without_trailing lines)
trimmed_steps [] = tt
trimmed_steps (line ∷ lines) = (advance_alike line (without_trailing line) (trailing-alike line), trimmed_steps lines)

pub same_but_blanks : (xs ys : List (List ℕ)) → map without_trailing xs ≡ map without_trailing ys → walk 1 empty_deck Begin xs ≡ walk 1 empty_deck Begin ys
same_but_blanks xs ys same =
    same_walk xs (map without_trailing xs) (trimmed_steps xs) 1 empty_deck Begin
    ∙ ap (walk 1 empty_deck Begin) same
    ∙ sym (same_walk ys (map without_trailing ys) (trimmed_steps ys) 1 empty_deck Begin)

pub as_many_with_blanks : (xs ys : List (List ℕ)) → map without_trailing xs ≡ map without_trailing ys → length xs ≡ length ys
as_many_with_blanks xs ys same =
    same_length xs (map without_trailing xs) (trimmed_steps xs)
    ∙ ap length same
    ∙ sym (same_length ys (map without_trailing ys) (trimmed_steps ys))
