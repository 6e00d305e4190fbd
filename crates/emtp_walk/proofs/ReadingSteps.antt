-- One more line of the walk, as what it is read, and what its end is.
use Rattle.std.proofs.Common.{◌≡◌, ◌∙◌, sym, ap, ℕ, ◌+◌, ◌++◌, ◌≤◌, List, [], ◌∷◌, length, append_assoc, drop, Some, Ok, Err}
use Rattle.std.specs.Prelude.{slice_get}
use Rattle.std.proofs.lemmas.List.{drop_all}
use Rattle.emtp_card.specs.declared.reason.Bad.{Bad}
use Rattle.emtp_walk.specs.Readings.{due, readings_from, line_reading, unless_refused}
use Rattle.emtp_walk.specs.LineRead.{Read}
use Rattle.emtp_walk.specs.Walk.{advance}
use Rattle.emtp_walk.specs.declared.deck.Deck.{Deck}
use Rattle.emtp_walk.specs.declared.deck.Place.{Place}
use Rattle.emtp_walk.specs.declared.kind.LineReading.{LineReading}
use Rattle.emtp_walk.proofs.Walking.{drop_here}

-- the lines from one on
here : (lines : List (List ℕ)) (at number : ℕ) (deck : Deck) (place : Place) (line : List ℕ) (read : Read) → slice_get lines at ≡ Some line → advance deck place number line ≡ read
    → readings_from number deck place (drop at lines) ≡ line_reading number place line ∷ unless_refused (λ (next : Deck × Place). readings_from (number + 1) next.0 next.1 (drop (at + 1) lines)) read
here lines at number deck place line read found is =
    ap (readings_from number deck place) (drop_here lines at line found)
    ∙ ap (λ (r : Read). line_reading number place line ∷ unless_refused (λ (next : Deck × Place). readings_from (number + 1) next.0 next.1 (drop (at + 1) lines)) r) is

pub reading_more : (lines : List (List ℕ)) (at number : ℕ) (deck new : Deck) (place next : Place) (line : List ℕ) (kind : LineReading) (readings more whole : List LineReading)
    → slice_get lines at ≡ Some line → advance deck place number line ≡ Ok (new, next) → kind ≡ line_reading number place line → more ≡ readings ++ kind ∷ []
    → readings ++ readings_from number deck place (drop at lines) ≡ whole
    → more ++ readings_from (number + 1) new next (drop (at + 1) lines) ≡ whole
reading_more lines at number deck new place next line kind readings more whole found is is_kind pushed h =
    ap (λ (ks : List LineReading). ks ++ readings_from (number + 1) new next (drop (at + 1) lines)) pushed
    ∙ append_assoc readings (kind ∷ []) (readings_from (number + 1) new next (drop (at + 1) lines))
    ∙ ap (λ (k : LineReading). readings ++ k ∷ readings_from (number + 1) new next (drop (at + 1) lines)) is_kind
    ∙ sym (ap (λ (ks : List LineReading). readings ++ ks) (here lines at number deck place line (Ok (new, next)) found is))
    ∙ h

-- a line that has a fault is the last one
pub reading_last : (lines : List (List ℕ)) (at number : ℕ) (deck : Deck) (place : Place) (line : List ℕ) (bad : Bad) (kind : LineReading) (readings more whole : List LineReading)
    → slice_get lines at ≡ Some line → advance deck place number line ≡ Err bad → kind ≡ line_reading number place line → more ≡ readings ++ kind ∷ []
    → readings ++ readings_from number deck place (drop at lines) ≡ whole
    → more ≡ whole
reading_last lines at number deck place line bad kind readings more whole found is is_kind pushed h =
    pushed
    ∙ ap (λ (k : LineReading). readings ++ k ∷ []) is_kind
    ∙ sym (ap (λ (ks : List LineReading). readings ++ ks) (here lines at number deck place line (Err bad) found is))
    ∙ h

-- behind the last line stands what is due
pub kind_due : (lines : List (List ℕ)) (at number last : ℕ) (deck : Deck) (place : Place) (kind : LineReading) (readings more whole : List LineReading)
    → length lines ≤ at → last ≡ number → kind ≡ due last place → more ≡ readings ++ kind ∷ []
    → readings ++ readings_from number deck place (drop at lines) ≡ whole
    → more ≡ whole
kind_due lines at number last deck place kind readings more whole all is_last is_kind pushed h =
    pushed
    ∙ ap (λ (k : LineReading). readings ++ k ∷ []) is_kind
    ∙ ap (λ (n : ℕ). readings ++ due n place ∷ []) is_last
    ∙ sym (ap (λ (ls : List (List ℕ)). readings ++ readings_from number deck place ls) (drop_all at lines all))
    ∙ h
