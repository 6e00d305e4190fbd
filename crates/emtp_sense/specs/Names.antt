-- The names of the nodes, and their numbers.
use Rattle.emtp_case.specs.declared.limit.TheConstants.{MOST_NODES}
use Rattle.std.specs.Prelude.{ℕ, ◌+◌, List, [], fold, length, position, take, unwrap_or, Option, Some, None, option_map}
use Rattle.std.specs.Str.{bytes_eq}
use Rattle.emtp_walk.specs.declared.deck.BranchEntry.{BranchEntry}
use Rattle.emtp_walk.specs.declared.deck.BranchEntry.TheVariants.{Single, Trio}
use Rattle.emtp_walk.specs.declared.deck.Deck.{Deck}
use Rattle.emtp_walk.specs.declared.deck.Place.{Place}
use Rattle.emtp_walk.specs.declared.deck.Place.TheVariants.{Points, Third, Waiting}
use Rattle.emtp_netcards.specs.declared.switch_card.SwitchCard.{SwitchCard}
use Rattle.indexmap.specs.IndexSet.{insert_key}

-- a name keeps its first place; ground has no name
abbrev pub with_name : List (List ℕ) → Option (List ℕ) → List (List ℕ)
with_name names None = names
with_name names (Some name) = insert_key bytes_eq names name

-- the two ends of a card
abbrev pub with_ends : List (List ℕ) → Option (List ℕ) → Option (List ℕ) → List (List ℕ)
with_ends names a b = with_name (with_name names a) b

abbrev pub with_entry_names : List (List ℕ) → BranchEntry → List (List ℕ)
with_entry_names names (Single card first count) = with_ends names card.from card.to
with_entry_names names (Trio zero' positive third) =
    with_ends (with_ends (with_ends names zero'.from zero'.to) positive.from positive.to) third.from third.to

abbrev pub with_switch_names : List (List ℕ) → SwitchCard → List (List ℕ)
with_switch_names names card = with_ends names card.from card.to

-- all nodes in order of first appearance, on branch and then on switch cards
abbrev pub node_names : Deck → List (List ℕ)
node_names deck = fold with_switch_names (fold with_entry_names [] deck.branches) deck.switches

-- the cards of a group that the file cuts off name nodes too
abbrev pub with_pending_nodes : List (List ℕ) → Place → List (List ℕ)
with_pending_nodes names (Points group) = with_ends names group.card.from group.card.to
with_pending_nodes names (Waiting card wide) = with_ends names card.from card.to
with_pending_nodes names (Third zero' positive wide) = with_ends (with_ends names zero'.from zero'.to) positive.from positive.to
with_pending_nodes names other = names

abbrev pub known_nodes : Deck → Place → List (List ℕ)
known_nodes deck place = with_pending_nodes (node_names deck) place

-- the nodes of a case, which has no more than so many
abbrev pub case_nodes : List (List ℕ) → List (List ℕ)
case_nodes names = take MOST_NODES names

-- the number of a node, from 1
abbrev pub find_node : List (List ℕ) → List ℕ → Option ℕ
find_node names name = option_map (λ at. at + 1) (position (bytes_eq name) names)

-- the same for an end, which is 0 where it is ground, and one more than there are where no node has the name
abbrev pub node_number : List (List ℕ) → Option (List ℕ) → ℕ
node_number names None = 0
node_number names (Some name) = unwrap_or (position (bytes_eq name) names) (length names) + 1
