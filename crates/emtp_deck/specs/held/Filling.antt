-- What is made of the cards, as the program holds it.
use Rattle.emtp_case.specs.declared.limit.TheConstants.{MOST_CHANNELS}
use Rattle.std.specs.Prelude.{◌≡◌, ◌≤◌, All, [], Result, Ok, Err}
use Rattle.emtp_card.specs.declared.reason.Bad.{Bad}
use Rattle.emtp_card.specs.declared.reason.Refused.{Refused}
use Rattle.emtp_card.specs.declared.reason.Refused.TheVariants.{Bad as OfBad, NoMemory}
use Rattle.emtp_case.specs.held.Channel.{IsChannel}
use Rattle.emtp_case.specs.HistoryValues.{history_values_of}
use Rattle.emtp_case.specs.held.Sizes.{Sizes, sizes_of}
use Rattle.emtp_deck.specs.Made.{Made, count_asked}
use Rattle.emtp_deck.specs.declared.asked.Asked.{Asked}
use Rattle.emtp_deck.specs.declared.filling.Filling.{Filling}

abbrev pub made_of : Filling → Made
made_of f = record { parts = f.draft.parts; asked = f.asked }

-- each channel is one of so many records
pub record AreThere (n : Sizes) (a : Asked) : Type 0 where
  pub variables : All (IsChannel n) a.variables
  pub outputs : All (IsChannel n) a.outputs
  pub branches : All (IsChannel n) a.branches
  pub switches : All (IsChannel n) a.switches
  pub statuses : All (IsChannel n) a.statuses

-- between two cards
pub record IsFilling (f : Filling) : Type 0 where
  pub nodes : f.nodes.keys ≡ f.draft.parts.nodes
  pub history : f.history ≡ history_values_of f.draft.parts
  pub variables : f.variables.keys ≡ f.draft.parts.vars
  pub no_sources : f.draft.parts.tacs_sources ≡ []
  pub no_channels : f.draft.parts.channels ≡ []
  pub few : count_asked f.asked ≤ MOST_CHANNELS
  pub there : AreThere (sizes_of f.draft.parts) f.asked

-- a call that takes a card answers as its definition does, and makes what that gives
abbrev pub Makes : Result (Unit {0}) Refused → Result Made Bad → Made → Type 0
Makes (Ok done) defined made = defined ≡ Ok made
Makes (Err (OfBad bad)) defined made = defined ≡ Err bad
Makes (Err NoMemory) defined made = Unit {0}
