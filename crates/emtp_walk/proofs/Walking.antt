-- One more line of the walk, and what the cards keep wherever it ends.
use Rattle.std.proofs.Common.{◌≡◌, ◌∙◌, ap, ℕ, ◌+◌, suc, List, ◌∷◌, drop, Some, Ok, Err, IfErr, IfOk, Result, add-one, drop-cons}
use Rattle.std.specs.Prelude.{slice_get}
use Rattle.std.proofs.lemmas.Option.{slice_get_within, get_or_from_slice_get}
use Rattle.emtp_card.specs.declared.reason.Bad.{Bad}
use Rattle.emtp_card.specs.declared.reason.Refused.{Refused}
use Rattle.emtp_card.specs.declared.reason.Refused.TheVariants.{Bad as OfBad, NoMemory}
use Rattle.emtp_walk.specs.Answer.{go_on}
use Rattle.emtp_walk.specs.held.Answer.{IfBad, IsWant, Leaves}
use Rattle.emtp_walk.specs.held.Sound.{IsControlSound, IsSound, IsWhole}
use Rattle.emtp_walk.specs.Walk.{advance, walk}
use Rattle.emtp_walk.specs.declared.control_cards.ControlPlace.{ControlPlace}
use Rattle.emtp_walk.specs.declared.control_cards.ControlPlace.TheVariants.{Blocks, Denominator, DevicePoints, Extras, Initial, Numerator, TacsOutputs, TacsSources}
use Rattle.emtp_walk.specs.declared.deck.Deck.{Deck}
use Rattle.emtp_walk.specs.declared.deck.Place.{Place}
use Rattle.emtp_walk.specs.declared.deck.Place.TheVariants.{After, Begin, Branches, Control, First, Outputs, Points, Second, Sources, Start, Switches, Third, Waiting}
use Rattle.emtp_walk.proofs.Sounding.{head_whole}

pub drop_here : {A : Type 0} (xs : List A) (at : ℕ) (x : A) → slice_get xs at ≡ Some x → drop at xs ≡ x ∷ drop (at + 1) xs
drop_here xs at x h =
    rw (add-one) (drop-cons xs at x (slice_get_within xs at x h) ∙ ap (λ y. y ∷ drop (suc at) xs) (get_or_from_slice_get xs at x x h))

pub walk_on : (lines : List (List ℕ)) (at number : ℕ) (deck new : Deck) (place next : Place) (line : List ℕ) → slice_get lines at ≡ Some line → advance deck place number line ≡ Ok (new, next) → walk number deck place (drop at lines) ≡ walk (number + 1) new next (drop (at + 1) lines)
walk_on lines at number deck new place next line h e =
    ap (walk number deck place) (drop_here lines at line h) ∙ ap (go_on (λ (s : Deck × Place). walk (number + 1) s.0 s.1 (drop (at + 1) lines))) e

pub walk_stops : (lines : List (List ℕ)) (at number : ℕ) (deck new : Deck) (place : Place) (line : List ℕ) (refused : Refused) → slice_get lines at ≡ Some line → Leaves {A = Place} {B = Deck} (Err refused) (advance deck place number line) new → Leaves {A = Place} {B = Deck} (Err refused) (walk number deck place (drop at lines)) new
walk_stops lines at number deck new place line (OfBad bad) h e =
    ap (walk number deck place) (drop_here lines at line h) ∙ ap (go_on (λ (s : Deck × Place). walk (number + 1) s.0 s.1 (drop (at + 1) lines))) e
walk_stops lines at number deck new place line NoMemory h e = tt

pub refused_as : (refused : Refused) (a b : Result (Deck × Place) Bad) (new : Deck) → a ≡ b → Leaves {A = Place} {B = Deck} (Err refused) b new → Leaves {A = Place} {B = Deck} (Err refused) a new
refused_as (OfBad bad) a b new e h = e ∙ h
refused_as NoMemory a b new e h = tt

-- a call that fails for want of memory alone
pub leaves : {A B : Type 0} (result : Result A Refused) (defined : B × A) (read : Result (B × A) Bad) (left : B) → read ≡ Ok defined → IfOk result (λ x. defined ≡ (left, x)) → IfErr result IsWant → Leaves result read left
leaves (Ok x) defined read left is ok bad = is ∙ ap Ok ok
leaves (Err (OfBad fault)) defined read left is ok bad = absurd (cc)
leaves (Err NoMemory) defined read left is ok bad = tt

pub refusal : (refused : Refused) (walked : Result (Deck × Place) Bad) (new : Deck) → Leaves {A = Place} {B = Deck} (Err refused) walked new → IfBad refused (λ bad. walked ≡ Err bad)
refusal (OfBad bad) walked new h = h
refusal NoMemory walked new h = tt

control_whole : (deck : Deck) (at : ControlPlace) → IsControlSound deck at → IsWhole deck
control_whole deck Blocks h = h
control_whole deck (Numerator card) h = h.0
control_whole deck (Denominator card top line) h = h.0
control_whole deck TacsSources h = h
control_whole deck Extras h = h
control_whole deck (DevicePoints group) h = h.0
control_whole deck TacsOutputs h = h
control_whole deck Initial h = h

pub whole_of : (deck : Deck) (place : Place) → IsSound deck place → IsWhole deck
whole_of deck Begin h = head_whole deck h
whole_of deck (First seen) h = head_whole deck h
whole_of deck Second h = head_whole deck h
whole_of deck Start h = h
whole_of deck (Control at) h = control_whole deck at h
whole_of deck (Branches wide) h = h
whole_of deck (Points group) h = h.0
whole_of deck (Waiting card wide) h = h.0
whole_of deck (Third zero' positive wide) h = h.0
whole_of deck Switches h = h
whole_of deck Sources h = h
whole_of deck Outputs h = h
whole_of deck (After seen) h = h
