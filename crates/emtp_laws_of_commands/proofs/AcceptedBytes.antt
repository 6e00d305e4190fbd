-- What accepted bytes give is a case.
use Rattle.std.proofs.Common.{◌≡◌, ℕ, List, Option, Some, None, Ok}
use Rattle.emtp_card.specs.Cards.{size_fault}
use Rattle.emtp_card.specs.Lines.{lines_of}
use Rattle.emtp_card.specs.declared.reason.Bad.{Bad}
use Rattle.emtp_case.specs.held.Case.{IsCase}
use Rattle.emtp_case.specs.declared.case.Parts.{Parts}
use Rattle.emtp_deck.specs.Deck.{deck_of}
use Rattle.emtp_deck_laws.proofs.AcceptedDecks.{deck_is_case}
use Rattle.emtp_run.specs.Reading.{deck, deck_by}

pub lines_accepted : (bytes : List ℕ) (p : Parts) → deck bytes ≡ Ok p → deck_of (lines_of bytes) ≡ Ok p
unfolding deck
lines_accepted bytes p e = by (size_fault bytes) e
  where
    by : (bad : Option Bad) → deck_by bad bytes ≡ Ok p → deck_of (lines_of bytes) ≡ Ok p
    by None e = e
    by (Some bad) e = absurd (cc)

pub bytes_are_case : (bytes : List ℕ) (p : Parts) → deck bytes ≡ Ok p → IsCase p
bytes_are_case bytes p e = deck_is_case (lines_of bytes) p (lines_accepted bytes p e)
