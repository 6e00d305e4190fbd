-- Sums over groups of rows.
use Rattle.std.specs.Prelude.{◌≡◌, ◌==◌, ◌<◌, ◌≤◌, ◌+ℤ◌, if◌then◌else◌, ℕ, ℤ, pos, Bool, List, length, slice_get}
use Rattle.emtp_case.specs.declared.case.Parts.{Parts}
use Rattle.emtp_case.specs.declared.row_kind.RowKind.{RowKind}
use Rattle.emtp_case.specs.declared.row_kind.RowKind.TheVariants.{Kcl, Sum}
use Rattle.emtp_elim.specs.Matrix.{item}
use Rattle.emtp_rows.specs.Nodal.{is_member, kind_at, node_at}
use Rattle.emtp_case.specs.Sums.{sum_below}
use Rattle.emtp_rows.specs.held.Touched.{tied_row}
use Rattle.emtp_net.specs.System.{at_node}

-- the amount has been added to the row of a node, and no other row is changed; ground has none
abbrev pub AddsAt : Parts → ℕ → ℤ → List ℤ → List ℤ → Type 0
AddsAt case node amount old new =
    (j : ℕ) → j < length old → item new j ≡ item old j +ℤ (if node == node_at case j then amount else pos 0)

-- what a branch brings to its two nodes has been added to their rows
abbrev pub AddsEnds : Parts → ℕ → ℤ × ℤ → List ℤ → List ℤ → Type 0
AddsEnds case at ends old new =
    (j : ℕ) → j < length old → item new j ≡ item old j +ℤ at_node (node_at case j) (slice_get case.branches at) ends

-- the sum over the group of a row of what f gives for its rows
abbrev pub group_total : List RowKind → (ℕ → ℤ) → ℕ → ℤ
group_total kinds f j = sum_below (length kinds) (λ k. if is_member kinds j k then f k else pos 0)

-- row k is tied to row j, which is the sum of a group
abbrev pub tied_to : List RowKind → ℕ → ℕ → Bool
tied_to kinds j k = tied_row kinds (kind_at kinds k) == j

-- no row is tied to the sum of a group
abbrev pub AreUntied : List RowKind → Type 0
AreUntied kinds = (k : ℕ) → k < length kinds → length kinds ≤ tied_row kinds (kind_at kinds k)

-- what an amount in a row is to row j
abbrev pub in_row : ℕ → ℤ → ℕ → ℤ
in_row row amount j = if row == j then amount else pos 0

-- what stands in a row has been added to the row of the sum that it is tied to, if it is
abbrev pub AddsTied : List RowKind → ℕ → List ℤ → List ℤ → Type 0
AddsTied kinds k old new =
    (j : ℕ) → j < length old → item new j ≡ item old j +ℤ (if tied_to kinds j k then item old k else pos 0)

-- the row of a group has the sum over its rows, and that of a single node is as it was
pub record FoldsGroups (kinds : List RowKind) (old new : List ℤ) : Type 0 where
  pub sum : (j : ℕ) → j < length old → kind_at kinds j ≡ Sum → item new j ≡ group_total kinds (item old) j
  pub node : (j : ℕ) → j < length old → kind_at kinds j ≡ Kcl → item new j ≡ item old j

-- the rows below n that are tied to a sum have been added to it, and no other row is changed
pub record IsFolded (kinds : List RowKind) (n : ℕ) (old new : List ℤ) : Type 0 where
  pub sums : (j : ℕ) → j < length old
      → item new j ≡ item old j +ℤ sum_below n (λ k. if tied_to kinds j k then item old k else pos 0)
  pub size : length new ≡ length old
