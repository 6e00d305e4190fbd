-- Two decks of which the cards of time switches have other times.
use Rattle.std.specs.Prelude.{◌≡◌, ◌++◌, ◌⊎◌, ℕ, false, List, [], ◌∷◌, Ok}
use Rattle.emtp_card.specs.Field.{columns}
use Rattle.emtp_card.specs.Lines.{is_comment, is_section_end}
use Rattle.emtp_case.specs.Switch.{with_times}
use Rattle.emtp_case.specs.declared.case.Parts.{Parts}
use Rattle.emtp_case.specs.declared.switch.Times.{Times}
use Rattle.emtp_netcards.specs.SwitchCard.{type_field}
use Rattle.emtp_netcards.specs.declared.switch_card.SwitchType.TheVariants.{Time as TimeType}
use Rattle.emtp_walk.specs.Walk.{empty_deck, walk}
use Rattle.emtp_walk.specs.declared.deck.Deck.{Deck}
use Rattle.emtp_walk.specs.declared.deck.Place.TheVariants.{Begin, Switches}

-- no comment, and no end of a section
abbrev pub IsCard : List ℕ → Type 0
IsCard line = (is_comment line ≡ false) × (is_section_end line ≡ false)

-- cards of time switches that are the same but for T-CLOSE and T-OPEN, in columns 15 to 34
pub record AreTimed (one other : List ℕ) : Type 0 where
  pub one_is : IsCard one
  pub other_is : IsCard other
  pub type : type_field one ≡ Ok TimeType
  pub before : columns one 1 14 ≡ columns other 1 14
  pub behind : columns one 35 80 ≡ columns other 35 80

-- lines of a section: each is the same in both, or a card of a time switch
abbrev pub IsTimedLine : List ℕ → List ℕ → Type 0
IsTimedLine one other = ((one ≡ other) × (is_section_end one ≡ false)) ⊎ AreTimed one other

abbrev pub AreTimedLines : List (List ℕ) → List (List ℕ) → Type 0
AreTimedLines [] [] = Unit {0}
AreTimedLines [] (other ∷ others) = ⊥
AreTimedLines (one ∷ ones) [] = ⊥
AreTimedLines (one ∷ ones) (other ∷ others) = IsTimedLine one other × AreTimedLines ones others

-- the same lines in front, which lead to the switches, and behind; between them cards of switches
pub record HasOtherTimes (xs ys : List (List ℕ)) : Type 0 where
  pub front : List (List ℕ)
  pub ones : List (List ℕ)
  pub others : List (List ℕ)
  pub behind : List (List ℕ)
  pub deck : Deck
  pub leads : walk 1 empty_deck Begin front ≡ Ok (deck, Switches)
  pub one : xs ≡ front ++ (ones ++ behind)
  pub other : ys ≡ front ++ (others ++ behind)
  pub alike : AreTimedLines ones others

-- the case, of which the time switches have these times
abbrev pub case_with_times : Parts → List Times → Parts
case_with_times case times = record case { switches = with_times case.switches times }
