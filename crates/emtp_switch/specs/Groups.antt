-- Groups: the nodes that closed switches join, with ground as one member like a node.
use Rattle.emtp_case.specs.RowOrder.{Rows}
use Rattle.emtp_case.specs.StepRecord.{is_closed}
use Rattle.emtp_case.specs.declared.switch.Switch.{Switch}
use Rattle.emtp_case.specs.declared.switch.SwitchKind.TheVariants.{Time}
use Rattle.emtp_case.specs.declared.switch.SwitchState.{SwitchState}
use Rattle.emtp_case.specs.declared.switch.SwitchState.TheVariants.{Waiting}
use Rattle.std.specs.List.{filter, find, list_any, range_with_len}
use Rattle.std.specs.Option.{unwrap_or}
use Rattle.std.specs.Prelude.{◌+◌, ◌∷◌, ◌++◌, ◌==◌, ◌&&◌, if◌then◌else◌, [], Bool, List, None, Option, Some, drop, length, map, not, pos, reverse, slice_index, slice_index_or, take, ℕ}

-- The ends of a switch

abbrev pub no_switch : Switch
no_switch = record { line = 0; from = 0; to = 0; kind = Time (pos 0) None (pos 0) }

abbrev pub switch_at : List Switch → ℕ → Switch
switch_at switches s = slice_index_or switches s no_switch

abbrev pub from_at : List Switch → ℕ → ℕ
from_at switches s = (switch_at switches s).from

abbrev pub to_at : List Switch → ℕ → ℕ
to_at switches s = (switch_at switches s).to

-- Groups

-- at first each node, and ground, has a label of its own
abbrev pub alone : ℕ → List ℕ
alone nodes = range_with_len 0 (nodes + 1)

-- a closed switch joins the groups of its sides: all that have the label of its `to` get that of its `from`
abbrev pub join : List Switch → List ℕ → ℕ → List ℕ
join switches labels s =
    map (λ l. if l == slice_index labels (to_at switches s) then slice_index labels (from_at switches s) else l) labels

-- the labels after switches that are taken in this order
abbrev pub groups : List Switch → List ℕ → List ℕ → List ℕ
groups switches labels [] = labels
groups switches labels (s ∷ rest) = groups switches (join switches labels s) rest

-- the sides of a switch are in different groups
abbrev pub divides : List Switch → List ℕ → ℕ → Bool
divides switches labels s = not (slice_index labels (from_at switches s) == slice_index labels (to_at switches s))

-- the bridges among switches that are taken in this order: those whose sides are in different groups until then
abbrev pub bridges : List Switch → List ℕ → List ℕ → List ℕ
bridges switches labels [] = []
bridges switches labels (s ∷ rest) =
    if divides switches labels s then s ∷ bridges switches (join switches labels s) rest else bridges switches labels rest

-- Known voltages and roots

-- Ground, the nodes with a voltage source, and the other nodes from the last row back. The first of them in a group is its
-- root: the member with the known voltage, or else the node of the last row.
abbrev pub by_rank : Rows → List ℕ
by_rank rows = 0 ∷ take rows.fixed rows.nodes ++ reverse (drop rows.fixed rows.nodes)

-- the root of the group of a node, or of ground
abbrev pub root_of : Rows → List ℕ → ℕ → ℕ
root_of rows labels node = unwrap_or (find (λ k. slice_index labels k == slice_index labels node) (by_rank rows)) 0

-- The closed switches

abbrev pub state_at : List SwitchState → ℕ → SwitchState
state_at states s = slice_index_or states s Waiting

-- whether a switch is closed
abbrev pub is_closed_at : List SwitchState → ℕ → Bool
is_closed_at states s = is_closed (state_at states s)

-- the closed switches in card order
abbrev pub closed_switches : List SwitchState → List ℕ
closed_switches states = filter (is_closed_at states) (range_with_len 0 (length states))

-- the labels that they give, and the bridges among them
abbrev pub labels_of : List Switch → Rows → List SwitchState → List ℕ
labels_of switches rows states = groups switches (alone (length rows.nodes)) (closed_switches states)

abbrev pub bridges_of : List Switch → Rows → List SwitchState → List ℕ
bridges_of switches rows states = bridges switches (alone (length rows.nodes)) (closed_switches states)

-- Tied switches

-- the nodes with a known voltage: ground and those with a voltage source
abbrev pub known_nodes : Rows → List ℕ
known_nodes rows = 0 ∷ take rows.fixed rows.nodes

-- the group of a label holds one of some nodes
abbrev pub knows : List ℕ → List ℕ → ℕ → Bool
knows known labels l = list_any (λ k. slice_index labels k == l) known

-- a switch that would join two groups that both hold a known voltage
abbrev pub ties : List Switch → List ℕ → List ℕ → ℕ → Bool
ties switches known labels s =
    divides switches labels s
    && (knows known labels (slice_index labels (from_at switches s))
    && knows known labels (slice_index labels (to_at switches s)))

-- the first such among switches that are taken in this order
abbrev pub first_tied : List Switch → List ℕ → List ℕ → List ℕ → Option ℕ
first_tied switches known labels [] = None
first_tied switches known labels (s ∷ rest) =
    if ties switches known labels s then Some s else first_tied switches known (join switches labels s) rest

abbrev pub tied_of : List Switch → Rows → List SwitchState → Option ℕ
tied_of switches rows states = first_tied switches (known_nodes rows) (alone (length rows.nodes)) (closed_switches states)
