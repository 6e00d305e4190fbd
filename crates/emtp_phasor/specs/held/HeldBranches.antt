-- Which branches are held for each row.
use Rattle.std.specs.List.{range_with_len}
use Rattle.std.specs.Prelude.{ℕ, zero, suc, ◌==◌, ◌||◌, Bool, true, false, List, [], ◌∷◌, ◌++◌, length, map, slice_get, Option, Some, None}
use Rattle.emtp_case.specs.Branch.{from_of, to_of}
use Rattle.emtp_case.specs.NodeRows.{node_at}
use Rattle.emtp_case.specs.declared.branch.Branch.{Branch}
use Rattle.emtp_case.specs.declared.case.Parts.{Parts}

-- whether a branch has an end at a node
abbrev pub has_end_at : ℕ → Option Branch → Bool
has_end_at n None = false
has_end_at n (Some b) = (from_of b == n) || (to_of b == n)

abbrev pub place_if : Bool → ℕ → List ℕ
place_if false at = []
place_if true at = at ∷ []

-- the places of those with an end at a node, among the first branches, in order
abbrev pub branches_below : Parts → ℕ → ℕ → List ℕ
branches_below case n zero = []
branches_below case n (suc k) = branches_below case n k ++ place_if (has_end_at n (slice_get case.branches k)) k

-- among all branches
unfoldable pub branches_at : Parts → ℕ → List ℕ
branches_at case n = branches_below case n (length case.branches)

-- for each row those of its node
unfoldable pub branches_by_row : Parts → List (List ℕ)
branches_by_row case = map (λ i. branches_at case (node_at case i)) (range_with_len 0 (length case.nodes))
