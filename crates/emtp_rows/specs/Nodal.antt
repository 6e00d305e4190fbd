-- The nodal matrix of a network, in units of 1e-12 S: what each row says of the currents that leave its node, and the
-- conductances between nodes as incidence times conductance times incidence.
use Rattle.std.specs.Prelude.{ℕ, ◌+◌, ◌%◌, ℤ, pos, ◌+ℤ◌, ◌-ℤ◌, ◌*ℤ◌, Bool, true, false, List, length, map, slice_get, slice_index_or, Option, Some, None}
use Rattle.emtp_elim.specs.Matrix.{Matrix, item, matrix_of}
use Rattle.emtp_case.specs.Branch.{from_of, to_of, first_of_trio}
pub use Rattle.emtp_case.specs.NodeRows.{same_node, node_at, unit, is_tie_to, kind_at, is_member, group_sum}
use Rattle.emtp_case.specs.declared.branch.Branch.{Branch}
use Rattle.emtp_case.specs.declared.branch.Branch.TheVariants.{Lumped as OfLumped, Line as OfLine, Pseudo as OfPseudo, Phase as OfPhase}
use Rattle.emtp_case.specs.declared.branch.Phase.{Phase}
use Rattle.emtp_case.specs.declared.case.Parts.{Parts}
use Rattle.emtp_case.specs.declared.row_kind.RowKind.{RowKind}
use Rattle.emtp_case.specs.declared.row_kind.RowKind.TheVariants.{Kcl, Sum, Tie, Ground, Source}
use Rattle.emtp_case.specs.Sums.{sum_below}

-- what the matrix depends on: the case, the conductances of its branches and the mutual ones of its three-phase lines,
-- in pS, and the kinds of its rows
pub record Nodal : Type 0 where
  pub case : Parts
  pub own : List ℤ
  pub coupling : List ℤ
  pub kinds : List RowKind

-- ---- conductances between nodes

-- 1 where the branch leaves the node, -1 where it comes to it, else 0
abbrev pub incidence : Branch → ℕ → ℤ
incidence b n = same_node (from_of b) n -ℤ same_node (to_of b) n

-- what a conductance between the two nodes of a branch puts between nodes n and m
abbrev pub across : Branch → ℤ → ℕ → ℕ → ℤ
across b g n m = incidence b n *ℤ g *ℤ incidence b m

-- the node at an end of a branch: `from` is its first end, `to` its second
abbrev pub end_node : Bool → Branch → ℕ
end_node false b = from_of b
end_node true b = to_of b

-- what a conductance from the node at an end to ground puts there, as that of a line: its two ends don't touch
abbrev pub to_ground : Bool → Branch → ℤ → ℕ → ℕ → ℤ
to_ground second b g n m = same_node (end_node second b) n *ℤ g *ℤ same_node (end_node second b) m

-- the node of a phase of a three-phase line, at an end
abbrev pub phase_node : Parts → Bool → ℕ → ℕ → ℕ
phase_node case second t phase = slice_index_or (map (end_node second) case.branches) (first_of_trio case.trios t + phase) 0

-- what a phase puts between the node at an end and the node that another phase of its line has at the same end
abbrev pub to_phase : Parts → Bool → Phase → ℕ → ℤ → ℕ → ℕ → ℤ
to_phase case second x other coupled n m =
    same_node (end_node second (OfPhase x)) n *ℤ coupled *ℤ same_node (phase_node case second x.trio other) m

-- what a phase puts at one end: its own conductance to ground, and the mutual one to each of the two other phases
abbrev pub phase_end : Parts → Bool → Phase → ℤ → ℤ → ℕ → ℕ → ℤ
phase_end case second x own coupled n m =
    to_ground second (OfPhase x) own n m +ℤ to_phase case second x ((x.phase + 1) % 3) coupled n m
    +ℤ to_phase case second x ((x.phase + 2) % 3) coupled n m

-- what the branch at a place puts between nodes n and m, by its own conductance and the mutual ones of all lines
abbrev pub between : Parts → ℤ → List ℤ → ℕ → ℕ → Option Branch → ℤ
between case g coupling n m None = pos 0
between case g coupling n m (Some (OfLumped x)) = across (OfLumped x) g n m
between case g coupling n m (Some (OfPseudo x)) = across (OfPseudo x) g n m
between case g coupling n m (Some (OfLine x)) = to_ground false (OfLine x) g n m +ℤ to_ground true (OfLine x) g n m
between case g coupling n m (Some (OfPhase x)) =
    phase_end case false x g (item coupling x.trio) n m +ℤ phase_end case true x g (item coupling x.trio) n m

-- the conductance between nodes n and m, and of node n itself: the sum over all branches
abbrev pub current_entry : Parts → List ℤ → List ℤ → ℕ → ℕ → ℤ
current_entry case own coupling n m =
    sum_below (length case.branches) (λ b. between case (item own b) coupling n m (slice_get case.branches b))

-- ---- the rows

-- the entry of row i in column j: the current that leaves the node or the group, a voltage that is equal to another one,
-- or a voltage that is known
abbrev pub entry_by : Nodal → ℕ → ℕ → RowKind → ℤ
entry_by s i j Kcl = current_entry s.case s.own s.coupling (node_at s.case i) (node_at s.case j)
entry_by s i j Sum = group_sum s.case s.kinds i (λ n. current_entry s.case s.own s.coupling n (node_at s.case j))
entry_by s i j (Tie row) = unit i j -ℤ unit row j
entry_by s i j Ground = unit i j
entry_by s i j Source = unit i j

-- the nodal matrix: the equation of each row, whose columns are the nodes in the order of rows
unfoldable pub nodal_matrix : Nodal → Matrix
nodal_matrix s = matrix_of (length s.case.nodes) (λ i j. entry_by s i j (kind_at s.kinds i))
