-- A network at a frequency, and what its nodes, groups, branches and ends put into rows.
use Rattle.std.specs.Prelude.{◌≡◌, ◌<◌, ℕ, ◌/◌, ◌==◌, ℤ, pos, ◌+ℤ◌, Bool, if◌then◌else◌, All, List, length, slice_get, Err}
use Rattle.emtp_admittance.specs.Admittances.{in_block, is_imaginary, port_at}
use Rattle.emtp_admittance.specs.held.Admittances.{IsSmallPort}
use Rattle.emtp_admittance.specs.declared.admittance.Admittance.{Admittance}
use Rattle.emtp_case.specs.NodeRows.{group_sum, kind_at, node_at}
use Rattle.emtp_case.specs.RowOrder.{order_of}
use Rattle.emtp_case.specs.held.RowKinds.{TieIsThere}
use Rattle.emtp_elim.specs.Matrix.{item}
use Rattle.emtp_elim.specs.Outcome.{outcome}
use Rattle.emtp_phasor.specs.Doubled.{Doubled, admittance_entry, between_nodes, doubled_entry, doubled_matrix}
use Rattle.emtp_phasor.specs.held.HeldBranches.{branches_by_row}
use Rattle.emtp_phasor.specs.held.HeldGroups.{members_by_row}
use Rattle.emtp_phasor.specs.held.HeldSources.{IsSmallBrought, brought_by_row}
use Rattle.emtp_phasor.specs.Steady.{leaving_node, named_ending}
use Rattle.emtp_phasor.specs.Volts.{doubled_right_by, source_phasors_into}
use Rattle.emtp_phasor.specs.declared.ending.Ending.{Ending}
use Rattle.emtp_phasor.specs.declared.phasor.Phasor.{Phasor}
use Rattle.emtp_phasor.specs.declared.steady_network.SteadyNetwork.{SteadyNetwork}

-- its order is that of the case, each branch has a two-port in range, each tie names a row, and the branches, the groups and
-- what current sources bring are those of each row
pub record IsSteadyNetwork (n : SteadyNetwork) : Type 0 where
  pub order_is : n.order.now ≡ order_of n.case.now.parts
  pub ports_count : length n.ports.now ≡ length n.case.now.parts.branches
  pub small : All IsSmallPort n.ports.now
  pub kinds_count : length n.kinds.now ≡ length n.case.now.parts.nodes
  pub ties : All (TieIsThere (length n.case.now.parts.nodes)) n.kinds.now
  pub lists_are : n.lists.now ≡ branches_by_row n.case.now.parts
  pub groups_are : n.groups.now ≡ members_by_row n.kinds.now
  pub brought_are : n.brought.now ≡ brought_by_row n.case.now.parts
  pub brought_small : IsSmallBrought n.case.now.parts n.brought.now

-- what its doubled matrix depends on
abbrev pub doubled_of : SteadyNetwork → Doubled
doubled_of n = record { case = n.case.now.parts; ports = n.ports.now; kinds = n.kinds.now }

-- its rows end so, whatever the right side
abbrev pub RowsEnd : SteadyNetwork → Ending → Type 0
RowsEnd n e = (right : List ℤ) → named_ending n.case.now.parts (outcome (doubled_matrix (doubled_of n)) right) ≡ Err e

-- ---- what stands in column c of a row of this part

-- a row has in each column so much more
abbrev pub AddsToRow : List ℤ → List ℤ → (ℕ → ℤ) → Type 0
AddsToRow old new f = (c : ℕ) → c < length old → item new c ≡ item old c +ℤ f c

-- by an admittance to a node
abbrev pub end_part : SteadyNetwork → Bool → ℕ → Admittance → ℕ → ℤ
end_part n imaginary node y c = if node == node_at n.case.now.parts (c / 2) then in_block imaginary (is_imaginary c) y else pos 0

-- by the branch at a place, where the row is that of a node
abbrev pub branch_part : SteadyNetwork → Bool → ℕ → ℕ → ℕ → ℤ
branch_part n imaginary node at c =
    between_nodes imaginary (is_imaginary c) (port_at n.ports.now at) node (node_at n.case.now.parts (c / 2))
    (slice_get n.case.now.parts.branches at)

-- by the node of a row of the network
abbrev pub node_part : SteadyNetwork → Bool → ℕ → ℕ → ℤ
node_part n imaginary row c =
    admittance_entry n.case.now.parts n.ports.now imaginary (is_imaginary c) (node_at n.case.now.parts row)
    (node_at n.case.now.parts (c / 2))

-- by the group of a row of the network
abbrev pub group_part : SteadyNetwork → Bool → ℕ → ℕ → ℤ
group_part n imaginary row c =
    group_sum n.case.now.parts n.kinds.now row
    (λ node. admittance_entry n.case.now.parts n.ports.now imaginary (is_imaginary c) node
    (node_at n.case.now.parts (c / 2)))

-- in the row of the doubled matrix
abbrev pub row_part : SteadyNetwork → ℕ → ℕ → ℤ
row_part n row c = doubled_entry (doubled_of n) row c (kind_at n.kinds.now (row / 2))

-- ---- what stands in a row of the right side

abbrev pub right_part : SteadyNetwork → ℕ → ℤ
right_part n row = doubled_right_by n.case.now.parts n.kinds.now row (kind_at n.kinds.now (row / 2))

-- ---- what leaves, less what current sources bring

-- what they bring to the node of a row
abbrev pub node_brought : SteadyNetwork → Bool → ℕ → ℤ
node_brought n imaginary row = source_phasors_into n.case.now.parts imaginary (node_at n.case.now.parts row)

-- what they bring to the group of a row
abbrev pub group_brought : SteadyNetwork → Bool → ℕ → ℤ
group_brought n imaginary row = group_sum n.case.now.parts n.kinds.now row (source_phasors_into n.case.now.parts imaginary)

-- the node of a row
abbrev pub node_leaves : SteadyNetwork → List Phasor → Bool → ℕ → ℤ
node_leaves n volts imaginary row = leaving_node n.case.now.parts n.ports.now volts imaginary (node_at n.case.now.parts row)

-- the group of a row
abbrev pub group_leaves : SteadyNetwork → List Phasor → Bool → ℕ → ℤ
group_leaves n volts imaginary row =
    group_sum n.case.now.parts n.kinds.now row (leaving_node n.case.now.parts n.ports.now volts imaginary)
