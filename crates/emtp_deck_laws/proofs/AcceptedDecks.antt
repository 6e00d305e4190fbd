-- What an accepted deck gives is a case.
use Rattle.std.proofs.Common.{◌≡◌, refl, ℕ, ◌+◌, ◌≤◌, List, [], ◌∷◌, length, All, Bool, Option, Some, None, Result, Ok, Err, arith}
use Rattle.emtp_card.specs.declared.reason.Bad.{Bad}
use Rattle.emtp_case.specs.held.Case.{IsCase}
use Rattle.emtp_case.specs.declared.case.Parts.{Parts}
use Rattle.emtp_deck.proofs.CaseDrafts.{HasFewInputs}
use Rattle.emtp_deck.proofs.DeckCases.{HasFewInputsEach, deck_case_is_case}
use Rattle.emtp_deck.specs.ControlFilling.{inputs_of}
use Rattle.emtp_deck.specs.Deck.{deck_case, deck_of}
use Rattle.emtp_sense.specs.Variables.{variable_names}
use Rattle.emtp_walk.proofs.SoundWalks.{HasFive, HasFiveEach, walk_keeps}
use Rattle.emtp_walk.proofs.Walking.{whole_of}
use Rattle.emtp_walk.specs.Answer.{◌>>=◌}
use Rattle.emtp_walk.specs.Walk.{empty_deck, walk}
use Rattle.emtp_walk.specs.declared.control_cards.BlockEntry.{BlockEntry}
use Rattle.emtp_walk.specs.declared.control_cards.ExtraEntry.{ExtraEntry}
use Rattle.emtp_walk.specs.declared.control_cards.ExtraEntry.TheVariants.{Device as DeviceEntry, Formula as FormulaEntry}
use Rattle.emtp_walk.specs.declared.deck.Deck.{Deck}
use Rattle.emtp_walk.specs.declared.deck.Place.{Place}
use Rattle.emtp_walk.specs.declared.deck.Place.TheVariants.{Begin}

few_inputs : (variables : List (List ℕ)) (xs : List (Option (Bool × List ℕ))) → length (inputs_of variables xs) ≤ length xs
few_inputs variables [] = omega arith
few_inputs variables (None ∷ xs) = omega (arith, few_inputs variables xs)
few_inputs variables (Some i ∷ xs) = omega (arith, few_inputs variables xs)

few_of : (variables : List (List ℕ)) (e : ExtraEntry) → HasFive e → HasFewInputs variables e
few_of variables (DeviceEntry card first count) h = omega (arith, few_inputs variables card.inputs, h)
few_of variables (FormulaEntry card) h = tt

few_block : (variables : List (List ℕ)) (e : BlockEntry) → length e.card.inputs ≡ 5 → length (inputs_of variables e.card.inputs) ≤ 5
few_block variables e h = omega (arith, few_inputs variables e.card.inputs, h)

every : {A : Type 0} (P Q : A → Type 0) (xs : List A) → ((x : A) → P x → Q x) → All P xs → All Q xs
every P Q xs f h k d l = f _ (h k d l)

few_each : (variables : List (List ℕ)) (deck : Deck) → HasFiveEach deck → HasFewInputsEach variables deck
few_each variables deck five = record {
  blocks = every (λ (e : BlockEntry). length e.card.inputs ≡ 5) (λ (e : BlockEntry). length (inputs_of variables e.card.inputs) ≤ 5) deck.control.blocks (few_block variables) five.blocks;
  extras = every HasFive (HasFewInputs variables) deck.control.extras (few_of variables) five.extras;
}

read_is_case : (lines : List (List ℕ)) (walked : Result (Deck × Place) Bad) (p : Parts) → walk 1 empty_deck Begin lines ≡ walked → (walked >>= (λ (read : Deck × Place). deck_case (length lines + 1) read.0 read.1)) ≡ Ok p → IsCase p
read_is_case lines (Ok read) p w e =
    let kept = walk_keeps lines read.0 read.1 w in
    deck_case_is_case (length lines + 1) read.0 read.1 p kept.0 (whole_of read.0 read.1 kept.0) (few_each (variable_names read.0 read.1) read.0 kept.1) e
read_is_case lines (Err bad) p w e = absurd (cc)

pub deck_is_case : (lines : List (List ℕ)) (p : Parts) → deck_of lines ≡ Ok p → IsCase p
unfolding deck_of
deck_is_case lines p e = read_is_case lines (walk 1 empty_deck Begin lines) p refl e
