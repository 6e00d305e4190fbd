-- The stored values of a record, for all channels that the cards ask for, also those beyond the limit of 64.
use Rattle.emtp_case.specs.declared.limit.TheConstants.{MOST_STORED_VALUES}
use Rattle.std.specs.List.{sum_by}
use Rattle.std.specs.Prelude.{ℕ, ◌+◌, ◌*◌, nat_lt, Bool, List, length, position, is_some, Option, Some, None, if◌then◌else◌}
use Rattle.std.specs.Str.{bytes_eq}
use Rattle.emtp_card.specs.declared.reason.Bad.{Bad}
use Rattle.emtp_card.specs.declared.reason.Why.TheVariants.{TooManySamples}
use Rattle.emtp_case.specs.RunData.{samples_of}
use Rattle.emtp_deck.specs.Branches.{entry_count}
use Rattle.emtp_deck.specs.Channels.{channel_count, switch_channel_count}
use Rattle.emtp_walk.specs.declared.control_cards.TacsOutputEntry.{TacsOutputEntry}
use Rattle.emtp_walk.specs.declared.deck.Deck.{Deck}
use Rattle.emtp_walk.specs.declared.deck.OutputEntry.{OutputEntry}
use Rattle.emtp_walk.specs.declared.deck.Place.{Place}
use Rattle.emtp_walk.specs.declared.deck.Place.TheVariants.{After, Begin, Branches, First, Outputs, Points, Second, Sources, Start, Switches, Third, Waiting, Control}
use Rattle.emtp_netcards.specs.declared.output_card.OutputCard.{OutputCard}
use Rattle.emtp_netcards.specs.declared.output_card.OutputCard.TheVariants.{All as AllNodes, Names}
use Rattle.emtp_netcards.specs.declared.switch_card.SwitchCard.{SwitchCard}

-- an unknown name is no channel
abbrev pub name_count : List (List ℕ) → Option (List ℕ) → ℕ
name_count nodes None = 0
name_count nodes (Some name) = if is_some (position (bytes_eq name) nodes) then 1 else 0

abbrev pub output_count : List (List ℕ) → OutputCard → ℕ
output_count nodes AllNodes = length nodes
output_count nodes (Names names) = sum_by (name_count nodes) names

-- the cards of a group that the file cuts off ask too
abbrev pub pending_count : Place → ℕ
pending_count Begin = 0
pending_count (First seen) = 0
pending_count Second = 0
pending_count Start = 0
pending_count (Control at) = 0
pending_count (Branches wide) = 0
pending_count (Points group) = channel_count group.card.asked
pending_count (Waiting card wide) = channel_count card.asked
pending_count (Third zero' positive wide) = channel_count zero'.asked + channel_count positive.asked
pending_count Switches = 0
pending_count Sources = 0
pending_count Outputs = 0
pending_count (After seen) = 0

abbrev pub count_of_switch : SwitchCard → ℕ
count_of_switch card = switch_channel_count card.asked

abbrev pub count_of_variables : List (List ℕ) → TacsOutputEntry → ℕ
count_of_variables variables entry = sum_by (name_count variables) entry.names

abbrev pub count_of_entry : List (List ℕ) → OutputEntry → ℕ
count_of_entry nodes entry = output_count nodes entry.card

-- all channels of the entries of a deck
abbrev pub deck_count : List (List ℕ) → List (List ℕ) → Deck → ℕ
deck_count nodes variables deck =
    sum_by (count_of_variables variables) deck.control.outputs + sum_by entry_count deck.branches
    + sum_by count_of_switch deck.switches + sum_by (count_of_entry nodes) deck.outputs

abbrev pub has_too_many : List (List ℕ) → List (List ℕ) → Deck → Place → Bool
has_too_many nodes variables deck place =
    nat_lt MOST_STORED_VALUES ((deck_count nodes variables deck + pending_count place) * samples_of deck.run)

-- the second miscellaneous card says how many records are samples
abbrev pub samples_bad : Deck → Bad
samples_bad deck = record { line = deck.second; column = 9; why = TooManySamples }
