-- Branches: what each card gives the case, unless it has a fault of sense. Of a card the least fault counts.
use Rattle.emtp_fix.specs.Chain.{unless}
use Rattle.emtp_case.specs.declared.limit.TheConstants.{MOST_BRANCHES, MOST_CHANNELS, MOST_HISTORY_VALUES, MOST_NODES}
use Rattle.std.specs.Prelude.{ℕ, ◌+◌, ◌*◌, nat_lt, ℤ, Bool, true, false, List, [], ◌∷◌, ◌++◌, length, Option, Some, None, option_map, Result, Ok}
use Rattle.emtp_card.specs.Fault.{bad_at, least}
use Rattle.emtp_card.specs.declared.fault.Fault.{Fault}
use Rattle.emtp_card.specs.declared.reason.Bad.{Bad}
use Rattle.emtp_case.specs.Branch.{points_of}
use Rattle.emtp_case.specs.Case.{phase_branches}
use Rattle.emtp_case.specs.HistoryValues.{history_values_of, line_history_values}
use Rattle.emtp_case.specs.declared.branch.Branch.{Branch}
use Rattle.emtp_case.specs.declared.branch.Branch.TheVariants.{Line as OfLine, Lumped as OfLumped, Phase as OfPhase, Pseudo as OfPseudo}
use Rattle.emtp_case.specs.declared.branch.Phase.{Phase}
use Rattle.emtp_case.specs.declared.branch.Point.{Point}
use Rattle.emtp_case.specs.declared.branch.Trio.{Trio}
use Rattle.emtp_case.specs.declared.case.Parts.{Parts}
use Rattle.emtp_case.specs.declared.channel.Channel.{Channel}
use Rattle.emtp_case.specs.declared.channel.Channel.TheVariants.{BranchCurrent, BranchVoltage}
use Rattle.emtp_walk.specs.Answer.{go_on, first_bad}
use Rattle.emtp_deck.specs.Channels.{channel_count, channels_of}
use Rattle.emtp_deck.specs.Copies.{missing_fault, modes_for, numbers_behind, phase_numbers, values_behind}
use Rattle.emtp_deck.specs.Made.{Made, count_asked}
use Rattle.emtp_sense.specs.Limits.{too_many}
use Rattle.emtp_sense.specs.Names.{node_number}
use Rattle.emtp_deck.specs.declared.branches.Counts.{Counts}
use Rattle.emtp_deck.specs.declared.copies.LineNumbers.{LineNumbers}
use Rattle.emtp_deck.specs.declared.copies.ValuesFrom.{ValuesFrom}
use Rattle.emtp_deck.specs.declared.copies.ValuesFrom.TheVariants.{Card as OwnValues, Earlier, Missing}
use Rattle.emtp_walk.specs.declared.deck.BranchEntry.{BranchEntry}
use Rattle.emtp_walk.specs.declared.deck.BranchEntry.TheVariants.{Single, Trio as TrioEntry}
use Rattle.emtp_walk.specs.declared.deck.Place.{Place}
use Rattle.emtp_walk.specs.declared.deck.Place.TheVariants.{After, Begin, Branches, First, Outputs, Points, Second, Sources, Start, Switches, Third, Waiting, Control}
use Rattle.emtp_netcards.specs.declared.branch_card.BranchCard.{BranchCard}
use Rattle.emtp_netcards.specs.declared.branch_card.BranchValues.{BranchValues}
use Rattle.emtp_netcards.specs.declared.branch_card.BranchValues.TheVariants.{Line as LineCard, Lumped as LumpedCard, Reactor as ReactorCard, Resistor as ResistorCard}

-- ---- what is counted

abbrev pub counts_of : Made → Counts
counts_of m = record { branches = length m.parts.branches; history = history_values_of m.parts; channels = count_asked m.asked }

-- with one more card, which needs so many history values
abbrev pub with_counts : Counts → BranchCard → ℕ → Counts
with_counts n card history = record {
  branches = n.branches + 1;
  history = n.history + history;
  channels = n.channels + channel_count card.asked;
}

-- a line keeps the past values of a travel time at both ends of so many phases
abbrev pub line_history : ℕ → ℤ → Option LineNumbers → ℕ
line_history phases dt None = 0
line_history phases dt (Some x) = phases * line_history_values dt x.delay

-- the history values of a card: those of the values that it takes, and none where they are missing
abbrev pub card_history : ℕ → Parts → BranchCard → ℕ
card_history phases p card = line_history phases p.run.dt (numbers_behind p card)

-- ---- faults of sense

-- the faults of a card, given the nodes, and the counts with its own
unfoldable pub card_fault : List (List ℕ) → Counts → BranchCard → ValuesFrom → Option Fault
card_fault nodes n card values =
    least (too_many (nat_lt MOST_BRANCHES n.branches) 1
    ∷ too_many (nat_lt MOST_HISTORY_VALUES n.history) 1
    ∷ too_many (nat_lt MOST_CHANNELS n.channels) 1
    ∷ too_many (nat_lt MOST_NODES (node_number nodes card.from)) 3
    ∷ too_many (nat_lt MOST_NODES (node_number nodes card.to)) 9
    ∷ missing_fault values
    ∷ [])

abbrev pub card_bad : List (List ℕ) → Counts → BranchCard → ValuesFrom → Option Bad
card_bad nodes n card values = option_map (bad_at card.line) (card_fault nodes n card values)

-- the counts with a card of one branch, or with the card -1 of three phases, which has the zero sequence
abbrev pub first_counts : Made → BranchCard → Counts
first_counts m card = with_counts (counts_of m) card (card_history 1 m.parts card)

-- and with the card -2, which has the positive sequence of each of the three phases
abbrev pub second_counts : Made → BranchCard → BranchCard → Counts
second_counts m zero' positive = with_counts (first_counts m zero') positive (card_history 3 m.parts positive)

abbrev pub first_fault : Made → BranchCard → Option Bad
first_fault m card = card_bad m.parts.nodes (first_counts m card) card (values_behind m.parts card)

abbrev pub second_fault : Made → BranchCard → BranchCard → Option Bad
second_fault m zero' positive = card_bad m.parts.nodes (second_counts m zero' positive) positive (values_behind m.parts positive)

-- the first two phases of a line
abbrev pub pair_fault : Made → BranchCard → BranchCard → Option Bad
pair_fault m zero' positive = first_bad (first_fault m zero') (second_fault m zero' positive)

-- a third phase has no values
abbrev pub third_fault : Made → BranchCard → BranchCard → BranchCard → Option Bad
third_fault m zero' positive third = card_bad m.parts.nodes (with_counts (second_counts m zero' positive) third 0) third OwnValues

-- the first card of an entry that has a fault decides
abbrev pub entry_fault : Made → BranchEntry → Option Bad
entry_fault m (Single card first count) = first_fault m card
entry_fault m (TrioEntry zero' positive third) = first_bad (pair_fault m zero' positive) (third_fault m zero' positive third)

-- the cards of a group that the file cuts off
abbrev pub pending_fault : Made → Place → Option Bad
pending_fault m Begin = None
pending_fault m (First seen) = None
pending_fault m Second = None
pending_fault m Start = None
pending_fault m (Control at) = None
pending_fault m (Branches wide) = None
pending_fault m (Points group) = first_fault m group.card
pending_fault m (Waiting card wide) = first_fault m card
pending_fault m (Third zero' positive wide) = pair_fault m zero' positive
pending_fault m Switches = None
pending_fault m Sources = None
pending_fault m Outputs = None
pending_fault m (After seen) = None

-- ---- records

abbrev pub line_branch : ℕ → ℕ → ℕ → LineNumbers → Branch
line_branch line a b x = OfLine (record { line = line; «from» = a; to = b; zc = x.zc; r = x.r; delay = x.delay })

-- the values of an earlier branch, between these nodes; pseudo-nonlinear branches share the points
abbrev pub moved : List Trio → ℕ → ℕ → ℕ → Branch → Branch
moved trios line a b (OfLumped x) = OfLumped (record x { line = line; «from» = a; to = b })
moved trios line a b (OfLine x) = OfLine (record x { line = line; «from» = a; to = b })
moved trios line a b (OfPseudo x) = OfPseudo (record x { line = line; «from» = a; to = b })
moved trios line a b (OfPhase x) = line_branch line a b (phase_numbers trios x)

abbrev pub with_branch : Parts → Branch → Parts
with_branch p branch = record p { branches = p.branches ++ branch ∷ [] }

abbrev pub with_points : List Point → Parts → ℕ → ℕ → ℕ → Bool → Parts
with_points points p line a b reactor = record p {
  points = p.points ++ points;
  branches =
      p.branches ++ OfPseudo (record {
        line = line;
        «from» = a;
        to = b;
        reactor = reactor;
        first = length p.points;
        count = length points;
      }) ∷ [];
}

-- a card's own values; no second or third phase stands alone, and a card that copies has none
abbrev pub with_own : List Point → Parts → ℕ → ℕ → ℕ → BranchValues → Parts
with_own points p line a b (LumpedCard r l c) =
    with_branch p (OfLumped (record { line = line; «from» = a; to = b; r = r; l = l; c = c }))
with_own points p line a b (LineCard zc r delay) = with_branch p (line_branch line a b (record { zc = zc; r = r; delay = delay }))
with_own points p line a b ReactorCard = with_points points p line a b true
with_own points p line a b ResistorCard = with_points points p line a b false
with_own points p line a b other = p

abbrev pub with_values : List Point → Parts → BranchCard → ℕ → ℕ → ValuesFrom → Parts
with_values points p card a b OwnValues = with_own points p card.line a b card.values
with_values points p card a b (Earlier branch) = with_branch p (moved p.trios card.line a b branch)
with_values points p card a b Missing = p

-- the branch of a card
abbrev pub with_single : List Point → Parts → BranchCard → Parts
with_single points p card =
    with_values points p card (node_number p.nodes card.from) (node_number p.nodes card.to) (values_behind p card)

abbrev pub phase_for : Parts → BranchCard → Phase
phase_for p card = record {
  line = card.line;
  «from» = node_number p.nodes card.from;
  to = node_number p.nodes card.to;
  trio = 0;
  phase = 0;
}

-- the phases of a line, if its modes are there
abbrev pub with_modes : Parts → Phase → Phase → Phase → Option Trio → Parts
with_modes p a b c (Some modes) = record p {
  branches = p.branches ++ phase_branches (length p.trios) a b c;
  trios = p.trios ++ record modes { first = length p.branches } ∷ [];
}
with_modes p a b c None = p

abbrev pub with_phases : Parts → BranchCard → BranchCard → BranchCard → Parts
with_phases p zero' positive third =
    with_modes p (phase_for p zero') (phase_for p positive) (phase_for p third)
    (modes_for (numbers_behind p zero') (numbers_behind p positive))

-- the channels of the branch at a place
abbrev pub branch_channels : ℕ → BranchCard → List Channel
branch_channels at card = channels_of card.asked (BranchCurrent at) (BranchVoltage at)

abbrev pub entry_channels : ℕ → BranchEntry → List Channel
entry_channels at (Single card first count) = branch_channels at card
entry_channels at (TrioEntry zero' positive third) =
    branch_channels at zero' ++ branch_channels (at + 1) positive ++ branch_channels (at + 2) third

abbrev pub entry_count : BranchEntry → ℕ
entry_count (Single card first count) = channel_count card.asked
entry_count (TrioEntry zero' positive third) =
    channel_count zero'.asked + channel_count positive.asked + channel_count third.asked

abbrev pub with_branches : List Point → Parts → BranchEntry → Parts
with_branches points p (Single card first count) = with_single (points_of points first count) p card
with_branches points p (TrioEntry zero' positive third) = with_phases p zero' positive third

abbrev pub with_entry : List Point → Made → BranchEntry → Made
with_entry points m e = record {
  parts = with_branches points m.parts e;
  asked = record m.asked { branches = m.asked.branches ++ entry_channels (length m.parts.branches) e };
}

-- ---- all entries

unfoldable pub take_entry : List Point → Made → BranchEntry → Result Made Bad
take_entry points m e = unless (entry_fault m e) (λ bad. bad) (Ok (with_entry points m e))

-- the first entry that has a fault decides
abbrev pub take_branches : List Point → Made → List BranchEntry → Result Made Bad
take_branches points m [] = Ok m
take_branches points m (e ∷ es) = go_on (λ (made : Made). take_branches points made es) (take_entry points m e)
