-- What an entry without a fault of sense gives its records.
use Rattle.emtp_case.specs.declared.limit.TheConstants.{MOST_BRANCHES, MOST_CHANNELS, MOST_HISTORY_VALUES, MOST_NODES}
use Rattle.std.proofs.Common.{◌≡◌, ℕ, ◌+◌, ◌<◌, ◌≤◌, List, [], ◌∷◌, length, None, arith}
use Rattle.std.specs.Prelude.{nat_lt}
use Rattle.emtp_card.proofs.Faults.{least_none}
use Rattle.emtp_case.specs.HistoryValues.{history_values_of}
use Rattle.emtp_sense.proofs.WithinLimits.{within}
use Rattle.emtp_sense.proofs.CardNames.{entry_names}
use Rattle.emtp_sense.proofs.Naming.{Each, ends_of}
use Rattle.emtp_walk.proofs.NoBad.{no_bad, nothing_before}
use Rattle.emtp_deck.specs.Branches.{card_bad, card_fault, card_history, entry_fault, first_counts, first_fault, pair_fault, second_counts, second_fault, third_fault, with_counts}
use Rattle.emtp_deck.specs.held.Branches.{line_count, line_fault}
use Rattle.emtp_deck.specs.Channels.{channel_count}
use Rattle.emtp_deck.specs.Copies.{missing_fault, values_behind}
use Rattle.emtp_deck.specs.Made.{Made, count_asked}
use Rattle.emtp_sense.specs.Limits.{too_many}
use Rattle.emtp_sense.specs.Names.{node_number}
use Rattle.emtp_sense.specs.held.Naming.{HasEndNodes, HasTrioNodes}
use Rattle.emtp_deck.specs.held.Sensible.{IsSensibleSingle, IsSensibleTrio}
use Rattle.emtp_netcards.specs.held.Fields.{AreEndNames}
use Rattle.emtp_deck.specs.declared.branches.Counts.{Counts}
use Rattle.emtp_deck.specs.declared.copies.ValuesFrom.{ValuesFrom}
use Rattle.emtp_deck.specs.declared.copies.ValuesFrom.TheVariants.{Card as OwnValues}
use Rattle.emtp_walk.specs.declared.deck.BranchEntry.{BranchEntry}
use Rattle.emtp_walk.specs.declared.deck.BranchEntry.TheVariants.{Single, Trio}
use Rattle.emtp_netcards.specs.declared.branch_card.BranchCard.{BranchCard}

-- no limit is exceeded, and the values are there
record IsFaultless (names : List (List ℕ)) (n : Counts) (card : BranchCard) (values : ValuesFrom) : Type 0 where
  branches : n.branches ≤ MOST_BRANCHES
  history : n.history ≤ MOST_HISTORY_VALUES
  channels : n.channels ≤ MOST_CHANNELS
  from_few : node_number names card.from ≤ MOST_NODES
  to_few : node_number names card.to ≤ MOST_NODES
  taken : missing_fault values ≡ None

faultless : (names : List (List ℕ)) (n : Counts) (card : BranchCard) (values : ValuesFrom) → card_bad names n card values ≡ None → IsFaultless names n card values
unfolding card_fault
faultless names n card values e =
    let none = least_none (too_many (nat_lt MOST_BRANCHES n.branches) 1
    ∷ too_many (nat_lt MOST_HISTORY_VALUES n.history) 1
    ∷ too_many (nat_lt MOST_CHANNELS n.channels) 1
    ∷ too_many (nat_lt MOST_NODES (node_number names card.from)) 3
    ∷ too_many (nat_lt MOST_NODES (node_number names card.to)) 9
    ∷ missing_fault values
    ∷ []) (no_bad card.line _ e) in
    record {
      branches = within MOST_BRANCHES n.branches 1 none.0;
      history = within MOST_HISTORY_VALUES n.history 1 none.1.0;
      channels = within 64 n.channels 1 none.1.1.0;
      from_few = within 1000 (node_number names card.from) 3 none.1.1.1.0;
      to_few = within 1000 (node_number names card.to) 9 none.1.1.1.1.0;
      taken = none.1.1.1.1.1.0;
    }

-- ---- sums

one_below : (n : ℕ) → n + 1 ≤ MOST_BRANCHES → n < MOST_BRANCHES
one_below n h = omega arith

three_within : (n : ℕ) → n + 1 + 1 + 1 ≤ MOST_BRANCHES → n + 3 ≤ MOST_BRANCHES
three_within n h = omega arith

in_turn : (m h a b : ℕ) → h + a + b ≤ m → h + (a + b) ≤ m
in_turn m h a b l = omega arith

in_threes : (m h a b c : ℕ) → h + a + b + c ≤ m → h + (a + b + c) ≤ m
in_threes m h a b c l = omega arith

-- ---- a card of one branch

-- what a card without a fault gives
pub record IsTakable (m : Made) (card : BranchCard) : Type 0 where
  pub sensible : IsSensibleSingle m.parts card
  pub room : count_asked m.asked + channel_count card.asked ≤ MOST_CHANNELS

pub takable : (m : Made) (card : BranchCard) → AreEndNames card.from card.to → HasEndNodes m.parts.nodes card.from card.to → first_fault m card ≡ None → IsTakable m card
takable m card names there e =
    let nodes = m.parts.nodes in
    let f = faultless nodes (first_counts m card) card (values_behind m.parts card) e in
    record {
      sensible = record {
        room = one_below (length m.parts.branches) f.branches;
        ends = ends_of nodes card.from card.to names (there.from_node f.from_few) (there.to_node f.to_few);
        taken = f.taken;
        history = f.history;
      };
      room = f.channels;
    }

-- ---- the three cards of a line

record AreFaultless (m : Made) (zero' positive third : BranchCard) : Type 0 where
  first : IsFaultless m.parts.nodes (first_counts m zero') zero' (values_behind m.parts zero')
  second : IsFaultless m.parts.nodes (second_counts m zero' positive) positive (values_behind m.parts positive)
  last : IsFaultless m.parts.nodes (with_counts (second_counts m zero' positive) third 0) third OwnValues

faultless_line : (m : Made) (zero' positive third : BranchCard) → line_fault m zero' positive third ≡ None → AreFaultless m zero' positive third
faultless_line m zero' positive third e =
    let nodes = m.parts.nodes in
    let none = nothing_before (pair_fault m zero' positive) (third_fault m zero' positive third) e in
    let pair = nothing_before (first_fault m zero') (second_fault m zero' positive) none.0 in
    record {
      first = faultless nodes (first_counts m zero') zero' (values_behind m.parts zero') pair.0;
      second = faultless nodes (second_counts m zero' positive) positive (values_behind m.parts positive) pair.1;
      last = faultless nodes (with_counts (second_counts m zero' positive) third 0) third OwnValues none.1;
    }

pub record AreTakable (m : Made) (zero' positive third : BranchCard) : Type 0 where
  pub sensible : IsSensibleTrio m.parts zero' positive third
  pub room : count_asked m.asked + line_count zero' positive third ≤ MOST_CHANNELS

pub line_takable : (m : Made) (zero' positive third : BranchCard) → AreEndNames zero'.from zero'.to → AreEndNames positive.from positive.to → AreEndNames third.from third.to → HasTrioNodes m.parts.nodes zero' positive third → line_fault m zero' positive third ≡ None
    → AreTakable m zero' positive third
line_takable m zero' positive third a b c there e =
    let nodes = m.parts.nodes in
    let f = faultless_line m zero' positive third e in
    record {
      sensible = record {
        room = three_within (length m.parts.branches) f.last.branches;
        zero_ends = ends_of nodes zero'.from zero'.to a (there.zero_nodes.from_node f.first.from_few) (there.zero_nodes.to_node f.first.to_few);
        positive_ends = ends_of nodes positive.from positive.to b (there.positive_nodes.from_node f.second.from_few) (there.positive_nodes.to_node f.second.to_few);
        third_ends = ends_of nodes third.from third.to c (there.third_nodes.from_node f.last.from_few) (there.third_nodes.to_node f.last.to_few);
        zero_taken = f.first.taken;
        positive_taken = f.second.taken;
        history = in_turn MOST_HISTORY_VALUES (history_values_of m.parts) (card_history 1 m.parts zero') (card_history 3 m.parts positive) f.second.history;
      };
      room = in_threes 64 (count_asked m.asked) (channel_count zero'.asked) (channel_count positive.asked) (channel_count third.asked) f.last.channels;
    }

-- ---- the ends of an entry, whose numbers are within the limit

pub few_ends : (m : Made) (e : BranchEntry) → entry_fault m e ≡ None → Each (λ x. node_number m.parts.nodes x ≤ MOST_NODES) (entry_names e)
few_ends m (Single card first count) e =
    let f = faultless m.parts.nodes (first_counts m card) card (values_behind m.parts card) e in
    (f.from_few, (f.to_few, tt))
few_ends m (Trio zero' positive third) e =
    let f = faultless_line m zero' positive third e in
    (f.first.from_few, (f.first.to_few, (f.second.from_few, (f.second.to_few, (f.last.from_few, (f.last.to_few, tt))))))
