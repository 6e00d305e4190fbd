-- The refusal of the control's cards is that of the first that has a fault.
use Rattle.std.proofs.Common.{◌≡◌, ◌∙◌, sym, ap, refl, ℕ, ◌+◌, ℤ, List, [], ◌∷◌, ◌++◌, Option, Some, None, Result}
use Rattle.emtp_fix.specs.Chain.{unless}
use Rattle.emtp_card.specs.declared.reason.Bad.{Bad}
use Rattle.emtp_deck_laws.specs.JudgedCards.{extras_history, judged_blocks, judged_control, judged_cut_control, judged_cut_place, judged_extra, judged_extras, judged_tacs_sources}
use Rattle.emtp_deck_laws.proofs.FirstRefusal.{bad_alone, first_refusal, refusal_of, refusals_in_turn}
use Rattle.emtp_netcards.specs.declared.source_card.SourceCard.{SourceCard}
use Rattle.emtp_netcards.specs.declared.switch_card.SwitchCard.{SwitchCard}
use Rattle.emtp_sense.specs.ControlSense.{block_bad, block_sense, blocks_bad, control_bad, device_sense, entry_history_values, extra_bad, extras_or_pending, first_extra, first_source, formula_sense, judge_extras, pending_control, pending_control_bad, tacs_source_bad, tacs_source_sense, tacs_sources_bad}
use Rattle.emtp_walk.specs.Answer.{first_bad}
use Rattle.emtp_walk.specs.declared.control_cards.BlockEntry.{BlockEntry}
use Rattle.emtp_walk.specs.declared.control_cards.ControlCards.{ControlCards}
use Rattle.emtp_walk.specs.declared.control_cards.ControlPlace.{ControlPlace}
use Rattle.emtp_walk.specs.declared.control_cards.ControlPlace.TheVariants.{Blocks, Denominator, DevicePoints, Extras, Initial, Numerator, TacsOutputs, TacsSources}
use Rattle.emtp_walk.specs.declared.control_cards.ExtraEntry.{ExtraEntry}
use Rattle.emtp_walk.specs.declared.control_cards.ExtraEntry.TheVariants.{Device as DeviceEntry, Formula as FormulaEntry}
use Rattle.emtp_walk.specs.declared.deck.Deck.{Deck}
use Rattle.emtp_walk.specs.declared.deck.Place.{Place}
use Rattle.emtp_walk.specs.declared.deck.Place.TheVariants.{After, Begin, Branches, Control, First, Outputs, Points, Second, Sources, Start, Switches, Third, Waiting}

blocks_refused : (variables : List (List ℕ)) (at : ℕ) (es : List BlockEntry) → blocks_bad variables at es ≡ first_refusal (judged_blocks variables at es)
unfolding block_sense
blocks_refused variables at [] = refl
blocks_refused variables at (e ∷ es) = ap (first_bad (block_bad variables at e.card)) (blocks_refused variables (at + 1) es)

sources_refused : (nodes : List (List ℕ)) (switches : List SwitchCard) (variables : List (List ℕ)) (first at : ℕ) (cards : List SourceCard) → tacs_sources_bad nodes switches variables first at cards ≡ first_refusal (judged_tacs_sources nodes switches variables first at cards)
unfolding tacs_source_sense
sources_refused nodes switches variables first at [] = refl
sources_refused nodes switches variables first at (card ∷ cards) =
    ap (first_bad (tacs_source_bad nodes switches variables at (first + at) card)) (sources_refused nodes switches variables first (at + 1) cards)

extra_refused : (variables : List (List ℕ)) (at next history : ℕ) (e : ExtraEntry) → extra_bad variables at next history e ≡ refusal_of (judged_extra variables at next history e)
unfolding device_sense formula_sense
extra_refused variables at next history (DeviceEntry card first count) = refl
extra_refused variables at next history (FormulaEntry card) = refl

cut_refused : (variables : List (List ℕ)) (dt : ℤ) (cards : ControlCards) (history : ℕ) (at : ControlPlace) → pending_control variables dt cards history at ≡ first_refusal (judged_cut_control variables dt cards history at)
unfolding block_sense device_sense
cut_refused variables dt cards history Blocks = refl
cut_refused variables dt cards history (Numerator card) = bad_alone _
cut_refused variables dt cards history (Denominator card top line) = bad_alone _
cut_refused variables dt cards history TacsSources = refl
cut_refused variables dt cards history Extras = refl
cut_refused variables dt cards history (DevicePoints group) = bad_alone _
cut_refused variables dt cards history TacsOutputs = refl
cut_refused variables dt cards history Initial = refl

place_refused : (variables : List (List ℕ)) (deck : Deck) (history : ℕ) (place : Place) → pending_control_bad variables deck place history ≡ first_refusal (judged_cut_place variables deck history place)
place_refused variables deck history Begin = refl
place_refused variables deck history (First seen) = refl
place_refused variables deck history Second = refl
place_refused variables deck history Start = refl
place_refused variables deck history (Control at) = cut_refused variables deck.run.dt deck.control history at
place_refused variables deck history (Branches wide) = refl
place_refused variables deck history (Points group) = refl
place_refused variables deck history (Waiting card wide) = refl
place_refused variables deck history (Third zero' positive wide) = refl
place_refused variables deck history Switches = refl
place_refused variables deck history Sources = refl
place_refused variables deck history Outputs = refl
place_refused variables deck history (After seen) = refl

judged_or_pending : (variables : List (List ℕ)) (deck : Deck) (place : Place) (a : Option Bad) (r : Result ℕ Bad) → extras_or_pending variables deck place (unless a (λ bad. bad) r) ≡ first_bad a (extras_or_pending variables deck place r)
judged_or_pending variables deck place (Some a) r = refl
judged_or_pending variables deck place None r = refl

extras_refused : (variables : List (List ℕ)) (deck : Deck) (place : Place) (first at history : ℕ) (es : List ExtraEntry) →
    extras_or_pending variables deck place (judge_extras variables deck.run.dt first at history es)
    ≡ first_refusal (judged_extras variables deck.run.dt first at history es ++ judged_cut_place variables deck (extras_history deck.run.dt history es) place)
extras_refused variables deck place first at history [] = place_refused variables deck history place
extras_refused variables deck place first at history (e ∷ es) =
    let sum = history + entry_history_values deck.run.dt e in
    judged_or_pending variables deck place (extra_bad variables at (first + at) sum e) (judge_extras variables deck.run.dt first (at + 1) sum es)
    ∙ ap (λ a. first_bad a (extras_or_pending variables deck place (judge_extras variables deck.run.dt first (at + 1) sum es))) (extra_refused variables at (first + at) sum e)
    ∙ ap (first_bad (refusal_of (judged_extra variables at (first + at) sum e))) (extras_refused variables deck place first (at + 1) sum es)

pub control_refused : (nodes variables : List (List ℕ)) (deck : Deck) (place : Place) → control_bad nodes variables deck place ≡ first_refusal (judged_control nodes variables deck place)
unfolding control_bad
control_refused nodes variables deck place =
    let cards = deck.control in
    let blocks = judged_blocks variables 0 cards.blocks in
    let sources = judged_tacs_sources nodes deck.switches variables (first_source cards) 0 cards.sources in
    let extras = judged_extras variables deck.run.dt (first_extra cards) 0 0 cards.extras ++ judged_cut_place variables deck (extras_history deck.run.dt 0 cards.extras) place in
    let behind = extras_or_pending variables deck place (judge_extras variables deck.run.dt (first_extra cards) 0 0 cards.extras) in
    let measured = tacs_sources_bad nodes deck.switches variables (first_source cards) 0 cards.sources in
    ap (λ a. first_bad a (first_bad measured behind)) (blocks_refused variables 0 cards.blocks)
    ∙ ap (λ a. first_bad (first_refusal blocks) (first_bad a behind)) (sources_refused nodes deck.switches variables (first_source cards) 0 cards.sources)
    ∙ ap (λ a. first_bad (first_refusal blocks) (first_bad (first_refusal sources) a)) (extras_refused variables deck place (first_extra cards) 0 0 cards.extras)
    ∙ ap (first_bad (first_refusal blocks)) (sym (refusals_in_turn sources extras))
    ∙ sym (refusals_in_turn blocks (sources ++ extras))
