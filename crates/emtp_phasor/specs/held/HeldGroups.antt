-- Which rows are held for each group.
use Rattle.std.specs.List.{range_with_len}
use Rattle.std.specs.Prelude.{ℕ, zero, suc, List, [], ◌++◌, length, map}
use Rattle.emtp_case.specs.NodeRows.{is_member}
use Rattle.emtp_case.specs.declared.row_kind.RowKind.{RowKind}
use Rattle.emtp_phasor.specs.held.HeldBranches.{place_if}

-- the rows of the group of row i, among the first ones, in order
abbrev pub members_below : List RowKind → ℕ → ℕ → List ℕ
members_below kinds i zero = []
members_below kinds i (suc k) = members_below kinds i k ++ place_if (is_member kinds i k) k

-- among all rows
unfoldable pub members_of : List RowKind → ℕ → List ℕ
members_of kinds i = members_below kinds i (length kinds)

-- for each row those of its group
unfoldable pub members_by_row : List RowKind → List (List ℕ)
members_by_row kinds = map (λ i. members_of kinds i) (range_with_len 0 (length kinds))
