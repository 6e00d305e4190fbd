-- How the list of names grows, and which numbers are those of nodes.
use Rattle.emtp_case.specs.declared.limit.TheConstants.{MOST_NODES}
use Rattle.std.specs.Prelude.{All, List, Option, length, take, ℕ, ◌≡◌, ◌≤◌}
use Rattle.emtp_netcards.specs.declared.switch_card.SwitchCard.{SwitchCard}
use Rattle.emtp_sense.specs.Names.{node_number}
use Rattle.emtp_walk.specs.declared.deck.BranchEntry.{BranchEntry}
use Rattle.emtp_walk.specs.declared.deck.BranchEntry.TheVariants.{Single, Trio}
use Rattle.emtp_walk.specs.declared.deck.Deck.{Deck}
use Rattle.emtp_netcards.specs.declared.branch_card.BranchCard.{BranchCard}

-- the second list begins with the first
pub record Continues (old new : List (List ℕ)) : Type 0 where
  pub longer : length old ≤ length new
  pub front : take (length old) new ≡ old

-- the number of an end, where it is within the limit, is that of a node, or 0
abbrev pub HasNode : List (List ℕ) → Option (List ℕ) → Type 0
HasNode nodes name = node_number nodes name ≤ MOST_NODES → node_number nodes name ≤ length nodes

pub record HasEndNodes (nodes : List (List ℕ)) (a b : Option (List ℕ)) : Type 0 where
  pub from_node : HasNode nodes a
  pub to_node : HasNode nodes b

pub record HasTrioNodes (nodes : List (List ℕ)) (zero' positive third : BranchCard) : Type 0 where
  pub zero_nodes : HasEndNodes nodes zero'.from zero'.to
  pub positive_nodes : HasEndNodes nodes positive.from positive.to
  pub third_nodes : HasEndNodes nodes third.from third.to

abbrev pub HasEntryNodes : List (List ℕ) → BranchEntry → Type 0
HasEntryNodes nodes (Single card first count) = HasEndNodes nodes card.from card.to
HasEntryNodes nodes (Trio zero' positive third) = HasTrioNodes nodes zero' positive third

abbrev pub HasSwitchNodes : List (List ℕ) → SwitchCard → Type 0
HasSwitchNodes nodes card = HasEndNodes nodes card.from card.to

-- all cards that name nodes
pub record HasNodes (nodes : List (List ℕ)) (deck : Deck) : Type 0 where
  pub branches : All (HasEntryNodes nodes) deck.branches
  pub switches : All (HasSwitchNodes nodes) deck.switches
