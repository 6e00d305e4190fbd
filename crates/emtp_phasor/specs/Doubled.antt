-- The doubled nodal matrix of a network in the sinusoidal steady state, in units of 1e-12 S. Row k of the network becomes
-- the rows 2k and 2k + 1 of the real and the imaginary part, and so do the columns.
use Rattle.std.specs.Prelude.{ℕ, ◌+◌, ◌*◌, ◌/◌, ◌%◌, ℤ, pos, ◌+ℤ◌, ◌-ℤ◌, ◌*ℤ◌, Bool, List, length, slice_get, Option, Some, None}
use Rattle.emtp_elim.specs.Matrix.{Matrix, matrix_of}
use Rattle.emtp_case.specs.Branch.{from_of, to_of}
use Rattle.emtp_case.specs.Sums.{sum_below}
use Rattle.emtp_case.specs.declared.branch.Branch.{Branch}
use Rattle.emtp_case.specs.declared.case.Parts.{Parts}
use Rattle.emtp_case.specs.declared.row_kind.RowKind.{RowKind}
use Rattle.emtp_case.specs.declared.row_kind.RowKind.TheVariants.{Kcl, Sum, Tie, Ground, Source}
use Rattle.emtp_case.specs.NodeRows.{same_node, node_at, unit, kind_at, group_sum}
use Rattle.emtp_admittance.specs.Admittances.{is_imaginary, in_block, port_at}
use Rattle.emtp_admittance.specs.declared.admittance.TwoPort.{TwoPort}

-- what the matrix depends on: the case, the admittances of its branches, in pS, and the kinds of its rows
pub record Doubled : Type 0 where
  pub case : Parts
  pub ports : List TwoPort
  pub kinds : List RowKind

-- what the branch at a place puts between nodes n and m, in a row and a column of these parts: at each of its ends its own
-- admittance, and between its ends the other one
abbrev pub between_nodes : Bool → Bool → TwoPort → ℕ → ℕ → Option Branch → ℤ
between_nodes row column y n m None = pos 0
between_nodes row column y n m (Some b) =
    (same_node (from_of b) n *ℤ in_block row column y.own *ℤ same_node (from_of b) m
    +ℤ same_node (from_of b) n *ℤ in_block row column y.other *ℤ same_node (to_of b) m)
    +ℤ (same_node (to_of b) n *ℤ in_block row column y.own *ℤ same_node (to_of b) m
    +ℤ same_node (to_of b) n *ℤ in_block row column y.other *ℤ same_node (from_of b) m)

-- the admittance between nodes n and m, and of node n itself: the sum over all branches
abbrev pub admittance_entry : Parts → List TwoPort → Bool → Bool → ℕ → ℕ → ℤ
admittance_entry case ports row column n m =
    sum_below (length case.branches) (λ b. between_nodes row column (port_at ports b) n m (slice_get case.branches b))

-- the entry of row r in column c: the current that leaves the node or the group, a voltage that is equal to another one,
-- or a voltage that is known; part by part
abbrev pub doubled_entry : Doubled → ℕ → ℕ → RowKind → ℤ
doubled_entry s r c Kcl =
    admittance_entry s.case s.ports (is_imaginary r) (is_imaginary c) (node_at s.case (r / 2))
    (node_at s.case (c / 2))
doubled_entry s r c Sum =
    group_sum s.case s.kinds (r / 2)
    (λ n. admittance_entry s.case s.ports (is_imaginary r) (is_imaginary c) n (node_at s.case (c / 2)))
doubled_entry s r c (Tie row) = unit r c -ℤ unit (2 * row + r % 2) c
doubled_entry s r c Ground = unit r c
doubled_entry s r c Source = unit r c

-- the doubled matrix
unfoldable pub doubled_matrix : Doubled → Matrix
doubled_matrix s = matrix_of (2 * length s.case.nodes) (λ r c. doubled_entry s r c (kind_at s.kinds (r / 2)))
