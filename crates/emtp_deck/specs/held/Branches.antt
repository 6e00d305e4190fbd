-- Beside `Branches`: what values hold for their proofs, and what premises say. No clause of the program reaches it.
use Rattle.std.specs.Prelude.{List, Ok, Option, Result, length, ℕ, ◌+◌, ◌++◌, ◌≡◌}
use Rattle.emtp_fix.specs.Chain.{unless}
use Rattle.emtp_card.specs.declared.reason.Bad.{Bad}
use Rattle.emtp_case.specs.HistoryValues.{history_values_of}
use Rattle.emtp_case.specs.declared.branch.Phase.{Phase}
use Rattle.emtp_case.specs.declared.branch.Point.{Point}
use Rattle.emtp_case.specs.declared.case.Parts.{Parts}
use Rattle.emtp_case.specs.declared.channel.Channel.{Channel}
use Rattle.emtp_walk.specs.Answer.{first_bad}
use Rattle.emtp_netcards.specs.declared.branch_card.BranchCard.{BranchCard}
use Rattle.emtp_deck.specs.Branches.{branch_channels, card_history, first_fault, line_history, pair_fault, third_fault, with_modes, with_phases, with_single}
use Rattle.emtp_deck.specs.Channels.{channel_count}
use Rattle.emtp_deck.specs.Copies.{modes_for}
use Rattle.emtp_deck.specs.Made.{Made}
use Rattle.emtp_deck.specs.declared.copies.TakenPair.{TakenPair}

-- how many past values the cards of a line need
abbrev pub pair_history : Parts → BranchCard → BranchCard → ℕ
pair_history p zero' positive = card_history 1 p zero' + card_history 3 p positive

-- the same, of the numbers that they take
abbrev pub taken_history : Parts → TakenPair → ℕ
taken_history p taken =
    line_history 1 p.run.dt taken.zero_sequence.numbers + line_history 3 p.run.dt taken.positive_sequence.numbers

-- so many past values more
abbrev pub NeedsMore : Parts → Parts → ℕ → Type 0
NeedsMore old new more = history_values_of new ≡ history_values_of old + more

-- the channels of a line whose first phase is at a place
abbrev pub line_channels : ℕ → BranchCard → BranchCard → BranchCard → List Channel
line_channels at zero' positive third =
    branch_channels at zero' ++ branch_channels (at + 1) positive ++ branch_channels (at + 2) third

abbrev pub line_count : BranchCard → BranchCard → BranchCard → ℕ
line_count zero' positive third = channel_count zero'.asked + channel_count positive.asked + channel_count third.asked

-- what a card of one branch with its own points, or the cards of a line give
abbrev pub with_asked : Made → Parts → List Channel → Made
with_asked m p channels = record { parts = p; asked = record m.asked { branches = m.asked.branches ++ channels } }

abbrev pub with_one : List Point → Made → BranchCard → Made
with_one points m card = with_asked m (with_single points m.parts card) (branch_channels (length m.parts.branches) card)

abbrev pub with_line : Made → BranchCard → BranchCard → BranchCard → Made
with_line m zero' positive third =
    with_asked m (with_phases m.parts zero' positive third) (line_channels (length m.parts.branches) zero' positive third)

-- the phases of a line whose cards take these numbers
abbrev pub with_taken : Parts → Phase → Phase → Phase → TakenPair → Parts
with_taken p a b c taken = with_modes p a b c (modes_for taken.zero_sequence.numbers taken.positive_sequence.numbers)

abbrev pub line_fault : Made → BranchCard → BranchCard → BranchCard → Option Bad
line_fault m zero' positive third = first_bad (pair_fault m zero' positive) (third_fault m zero' positive third)

-- the same, unless a card is refused
abbrev pub take_one : List Point → Made → BranchCard → Result Made Bad
take_one points m card = unless (first_fault m card) (λ bad. bad) (Ok (with_one points m card))

abbrev pub take_line : Made → BranchCard → BranchCard → BranchCard → Result Made Bad
take_line m zero' positive third = unless (line_fault m zero' positive third) (λ bad. bad) (Ok (with_line m zero' positive third))
