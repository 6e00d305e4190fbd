-- The case that the bytes of a file give.
use Rattle.std.specs.Prelude.{ℕ, List, Option, Some, None, Result, Err}
use Rattle.emtp_card.specs.Cards.{size_fault}
use Rattle.emtp_card.specs.Lines.{lines_of}
use Rattle.emtp_card.specs.declared.reason.Bad.{Bad}
use Rattle.emtp_case.specs.declared.case.Parts.{Parts}
use Rattle.emtp_deck.specs.Deck.{deck_of}

abbrev pub deck_by : Option Bad → List ℕ → Result Parts Bad
deck_by None bytes = deck_of (lines_of bytes)
deck_by (Some bad) bytes = Err bad

-- the case of these bytes, or the card that is refused; too many lines or bytes are refused before any card
unfoldable pub deck : List ℕ → Result Parts Bad
deck bytes = deck_by (size_fault bytes) bytes
