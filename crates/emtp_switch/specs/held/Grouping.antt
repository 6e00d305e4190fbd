-- What the groups of the code are.
use Rattle.emtp_case.specs.RowOrder.{Rows}
use Rattle.emtp_case.specs.declared.case.Parts.{Parts}
use Rattle.emtp_case.specs.declared.switch.Switch.{Switch}
use Rattle.emtp_case.specs.declared.switch.SwitchState.{SwitchState}
use Rattle.emtp_switch.specs.Groups.{alone, bridges_of, groups, tied_of}
use Rattle.emtp_switch.specs.Kinds.{kinds_of}
use Rattle.emtp_switch.specs.held.Tree.{AreLinks, IsTree, StartsAtRoots}
use Rattle.emtp_switch.specs.declared.groups.Groups.{Groups}
use Rattle.emtp_switch.specs.declared.sweep.Link.{Link}
use Rattle.std.specs.Prelude.{◌≡◌, ◌≤◌, ◌+◌, ◌∷◌, [], Bool, List, length, take, vec_capacity, ℕ}

-- the links are the tree of the bridges of the states of the switches
pub record AreTree (switches : List Switch) (rows : Rows) (states : List SwitchState) (links : List Link) : Type 0 where
  pub links_are : AreLinks links (length rows.nodes + 1) (length switches)
  pub tree : IsTree switches rows (bridges_of switches rows states)
      (groups switches (alone (length rows.nodes)) (bridges_of switches rows states)) links

-- the links are the tree of these bridges, where what is reached at first are the roots
abbrev pub GrowsTree : List Switch → Rows → List ℕ → List Bool → List Link → Type 0
GrowsTree switches rows es reached links =
    StartsAtRoots rows (groups switches (alone (length rows.nodes)) es) reached
    → IsTree switches rows es (groups switches (alone (length rows.nodes)) es) links

-- one place for each node, and for ground but in the list of kinds
pub record HasPlaces (p : Parts) (g : Groups) : Type 0 where
  pub labels_size : length g.labels.items ≡ length p.nodes + 1
  pub knowing_size : length g.knowing.items ≡ length p.nodes + 1
  pub bridges_size : length g.bridges.items ≡ length p.switches
  pub roots_size : length g.roots.items ≡ length p.nodes + 1
  pub reached_size : length g.reached.items ≡ length p.nodes + 1
  pub links_size : length g.links.items ≡ length p.nodes + 1
  pub tallies_size : length g.tallies.items ≡ length p.nodes + 1
  pub kinds_size : length g.kinds.items ≡ length p.nodes

-- the capacities of the lists of the groups
abbrev pub group_capacities : Groups → List ℕ
group_capacities g =
    vec_capacity g.labels
    ∷ vec_capacity g.knowing
    ∷ vec_capacity g.bridges
    ∷ vec_capacity g.roots
    ∷ vec_capacity g.reached
    ∷ vec_capacity g.links
    ∷ vec_capacity g.tallies
    ∷ vec_capacity g.kinds
    ∷ []

-- the groups are those of the states of the switches
pub record AreGroups (p : Parts) (rows : Rows) (states : List SwitchState) (g : Groups) : Type 0 where
  pub room : HasPlaces p g
  pub links_within : g.link_count ≤ length g.links.items
  pub tree : AreTree p.switches rows states (take g.link_count g.links.items)
  pub tied : g.tied ≡ tied_of p.switches rows states
  pub kinds : g.kinds.items ≡ kinds_of p rows states
