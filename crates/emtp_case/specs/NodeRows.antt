-- Nodes and their rows, the kinds of rows, and the groups of rows that closed switches join.
use Rattle.std.specs.List.{position_or_len}
use Rattle.std.specs.Prelude.{ℕ, ◌==◌, ◌||◌, ℤ, pos, Bool, false, if◌then◌else◌, List, length, slice_index, slice_index_or}
use Rattle.emtp_fix.specs.declared.limit.TheConstants.{PICO}
use Rattle.emtp_case.specs.RowOrder.{order_of}
use Rattle.emtp_case.specs.Sums.{sum_below}
use Rattle.emtp_case.specs.declared.case.Parts.{Parts}
use Rattle.emtp_case.specs.declared.row_kind.RowKind.{RowKind}
use Rattle.emtp_case.specs.declared.row_kind.RowKind.TheVariants.{Kcl, Sum, Tie, Ground, Source}

-- 1 where two nodes are one
abbrev pub same_node : ℕ → ℕ → ℤ
same_node n m = if n == m then pos 1 else pos 0

-- the node of a row
abbrev pub node_at : Parts → ℕ → ℕ
node_at case i = slice_index (order_of case).nodes i

-- the row of a node, or the number of rows for ground, which has none
abbrev pub row_at : Parts → ℕ → ℕ
row_at case n = position_or_len (λ m. m == n) (order_of case).nodes

-- 1, in units of 1e-12, in a row's own column
abbrev pub unit : ℕ → ℕ → ℤ
unit i j = if i == j then PICO else pos 0

abbrev pub is_tie_to : ℕ → RowKind → Bool
is_tie_to i Kcl = false
is_tie_to i Sum = false
is_tie_to i (Tie row) = row == i
is_tie_to i Ground = false
is_tie_to i Source = false

abbrev pub kind_at : List RowKind → ℕ → RowKind
kind_at kinds i = slice_index_or kinds i Ground

-- row k is row i, or is tied to it: its node is one of the group of row i
abbrev pub is_member : List RowKind → ℕ → ℕ → Bool
is_member kinds i k = (k == i) || is_tie_to i (kind_at kinds k)

-- the sum over the group of a row of what f gives for its nodes
abbrev pub group_sum : Parts → List RowKind → ℕ → (ℕ → ℤ) → ℤ
group_sum case kinds i f = sum_below (length case.nodes) (λ k. if is_member kinds i k then f (node_at case k) else pos 0)
