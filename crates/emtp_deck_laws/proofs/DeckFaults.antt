-- What a deck is refused for is the least fault of its cards, and a case has none.
use Rattle.std.proofs.Common.{◌≡◌, ◌∙◌, sym, ℕ, ◌+◌, List, length, Ok, Err}
use Rattle.emtp_card.specs.declared.reason.Bad.{Bad}
use Rattle.emtp_case.specs.declared.case.Parts.{Parts}
use Rattle.emtp_deck.proofs.Asking.{no_fault}
use Rattle.emtp_deck.specs.Deck.{case_of, deck_of}
use Rattle.emtp_deck_laws.specs.JudgedCards.{judged_cards, made_of_all}
use Rattle.emtp_deck_laws.specs.LeastFault.{IsFaultAmong, IsLeastAmong}
use Rattle.emtp_deck_laws.proofs.FirstRefusal.{first_refusal}
use Rattle.emtp_deck_laws.proofs.JudgedDeck.{lines_refused, refused}
use Rattle.emtp_deck_laws.proofs.JudgedLines.{judged_rise}
use Rattle.emtp_deck_laws.proofs.LeastRefusal.{least_of_all, none_of_all}
use Rattle.emtp_sense.specs.Names.{case_nodes, known_nodes}
use Rattle.emtp_sense.specs.Variables.{variable_names}
use Rattle.emtp_walk.specs.Walk.{empty_deck, walk}
use Rattle.emtp_walk.specs.declared.deck.Deck.{Deck}
use Rattle.emtp_walk.specs.declared.deck.Place.{Place}
use Rattle.emtp_walk.specs.declared.deck.Place.TheVariants.{Begin}

pub refused_for_the_least : (lines : List (List ℕ)) (deck : Deck) (place : Place) (bad : Bad) → walk 1 empty_deck Begin lines ≡ Ok (deck, place) → deck_of lines ≡ Err bad → IsLeastAmong (judged_cards (length lines) deck place) bad
refused_for_the_least lines deck place bad e h =
    let cards = judged_cards (length lines) deck place in
    least_of_all cards deck.second (length lines + 2) bad (judged_rise lines deck place e)
    (refused (first_refusal cards) (case_of deck (made_of_all (case_nodes (known_nodes deck place)) (variable_names deck place) deck)) bad (sym (lines_refused lines deck place e) ∙ h))

pub accepted_without : (lines : List (List ℕ)) (deck : Deck) (place : Place) (case : Parts) (bad : Bad) → walk 1 empty_deck Begin lines ≡ Ok (deck, place) → deck_of lines ≡ Ok case → IsFaultAmong (judged_cards (length lines) deck place) bad → ⊥
accepted_without lines deck place case bad e h =
    let cards = judged_cards (length lines) deck place in
    none_of_all cards bad ((no_fault (first_refusal cards) (λ bad. bad) (case_of deck (made_of_all (case_nodes (known_nodes deck place)) (variable_names deck place) deck)) case (sym (lines_refused lines deck place e) ∙ h)).0)
