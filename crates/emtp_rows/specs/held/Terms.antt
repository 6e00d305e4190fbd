-- How the nodal rows are held: of each row the terms of its node, by column.
use Rattle.std.specs.Prelude.{◌≡◌, ◌≢◌, ℕ, ◌+◌, ◌*◌, ◌%◌, ◌<◌, ◌≤◌, ◌==◌, ℤ, pos, ◌+ℤ◌, ◌-ℤ◌, neg_ℤ, unsigned_abs, nat_lt, map, Bool, true, false, if◌then◌else◌, List, [], ◌∷◌, All, length, replicate, slice_get, slice_index_or, Option, Some, None}
use Rattle.std.specs.List.{range_with_len}
use Rattle.emtp_fix.specs.declared.limit.TheConstants.{LARGEST_ENTRY}
use Rattle.emtp_elim.specs.Matrix.{item}
use Rattle.emtp_case.specs.Branch.{from_of, to_of}
use Rattle.emtp_case.specs.RowOrder.{order_of}
use Rattle.emtp_case.specs.held.RowKinds.{AreKinds}
use Rattle.emtp_case.specs.declared.branch.Branch.{Branch}
use Rattle.emtp_case.specs.declared.branch.Branch.TheVariants.{Lumped as OfLumped, Line as OfLine, Pseudo as OfPseudo, Phase as OfPhase}
use Rattle.emtp_case.specs.declared.case.Parts.{Parts}
use Rattle.emtp_case.specs.declared.row_kind.RowKind.{RowKind}
use Rattle.emtp_case.specs.declared.row_kind.RowKind.TheVariants.{Kcl, Sum, Tie, Ground, Source}
use Rattle.emtp_rows.specs.declared.term.Amount.{Amount}
use Rattle.emtp_rows.specs.declared.term.Amount.TheVariants.{Own, Turned, Mutual}
use Rattle.emtp_rows.specs.declared.term.Term.{Term}
use Rattle.emtp_case.specs.Sums.{sum_below, total}
use Rattle.emtp_rows.specs.Nodal.{Nodal, end_node, is_member, node_at, phase_node, unit}
use Rattle.emtp_rows.specs.held.Touched.{row_at}

-- ---- the terms of a branch

-- a number in the column of a node; ground, which is 0, has no column
pub record NodeTerm : Type 0 where
  pub node : ℕ
  pub amount : Amount

abbrev pub amount_of : List ℤ → List ℤ → Amount → ℤ
amount_of own coupling (Own b) = item own b
amount_of own coupling (Turned b) = neg_ℤ (item own b)
amount_of own coupling (Mutual t) = item coupling t

-- the conductance in the column of its own node, and the same with the sign turned in that of the other end
abbrev pub two_terms : ℕ → ℕ → ℕ → List NodeTerm
two_terms b node other = record { node = node; amount = Own b } ∷ record { node = other; amount = Turned b } ∷ []

-- what an end of the branch at a place brings into the current equation of its node
abbrev pub end_terms : Parts → ℕ → Bool → Branch → List NodeTerm
end_terms case b second (OfLumped x) =
    two_terms b (end_node second (OfLumped x)) (end_node (if second then false else true) (OfLumped x))
end_terms case b second (OfPseudo x) =
    two_terms b (end_node second (OfPseudo x)) (end_node (if second then false else true) (OfPseudo x))
end_terms case b second (OfLine x) = record { node = end_node second (OfLine x); amount = Own b } ∷ []
end_terms case b second (OfPhase x) =
    record { node = end_node second (OfPhase x); amount = Own b }
    ∷ record { node = phase_node case second x.trio ((x.phase + 1) % 3); amount = Mutual x.trio }
    ∷ record { node = phase_node case second x.trio ((x.phase + 2) % 3); amount = Mutual x.trio }
    ∷ []

-- what the branch at a place brings into the current equation of node n
abbrev pub terms_by : Parts → ℕ → ℕ → Option Branch → List NodeTerm
terms_by case n b None = []
terms_by case n b (Some x) =
    if from_of x == n then end_terms case b false x else if to_of x == n then end_terms case b true x else []

abbrev pub terms_at : Parts → ℕ → ℕ → List NodeTerm
terms_at case n b = terms_by case n b (slice_get case.branches b)

-- a term's part in the column of node m
abbrev pub in_node : List ℤ → List ℤ → ℕ → NodeTerm → ℤ
in_node own coupling m t = if t.node == m then amount_of own coupling t.amount else pos 0

-- a term's part in column j
abbrev pub in_column : List ℤ → List ℤ → ℕ → Term → ℤ
in_column own coupling j t = if t.column == j then amount_of own coupling t.amount else pos 0

abbrev pub AmountIsThere : ℕ → ℕ → Amount → Type 0
AmountIsThere branches trios (Own b) = b < branches
AmountIsThere branches trios (Turned b) = b < branches
AmountIsThere branches trios (Mutual t) = t < trios

-- the column and the conductance of a term exist
pub record IsTerm (nodes branches trios : ℕ) (t : Term) : Type 0 where
  pub column : t.column < nodes
  pub amount : AmountIsThere branches trios t.amount

-- the list has grown by these terms of nodes, whatever the conductances are
pub record Adds (case : Parts) (more : List NodeTerm) (old new : List Term) : Type 0 where
  pub sums :
      (own coupling : List ℤ) (j : ℕ) → j < length case.nodes
      → total (in_column own coupling j) new
      ≡ total (in_column own coupling j) old +ℤ total (in_node own coupling (node_at case j)) more
  pub few : length new ≤ length old + length more
  pub exist : All (IsTerm (length case.nodes) (length case.branches) (length case.trios)) old
      → All (IsTerm (length case.nodes) (length case.branches) (length case.trios)) new

-- the list has the terms of the first `count` branches in the current equation of node n
pub record HasTerms (case : Parts) (n count : ℕ) (terms : List Term) : Type 0 where
  pub sums :
      (own coupling : List ℤ) (j : ℕ) → j < length case.nodes
      → total (in_column own coupling j) terms
      ≡ sum_below count (λ b. total (in_node own coupling (node_at case j)) (terms_at case n b))
  pub few : length terms ≤ 3 * count
  pub exist : All (IsTerm (length case.nodes) (length case.branches) (length case.trios)) terms

-- the row of this node has grown by these terms, and the others are as they were
pub record AddsEnd (case : Parts) (n : ℕ) (more : List NodeTerm) (old new : List (List Term)) : Type 0 where
  pub here : (i : ℕ) → i < length old → node_at case i ≡ n
      → Adds case more (slice_index_or old i []) (slice_index_or new i [])
  pub others : (i : ℕ) → i < length old → node_at case i ≢ n → slice_index_or new i [] ≡ slice_index_or old i []

-- each row holds the terms of its node
abbrev pub HasAllTerms : Parts → List (List Term) → Type 0
HasAllTerms case rows =
    (i : ℕ) → i < length rows → HasTerms case (node_at case i) (length case.branches) (slice_index_or rows i [])

-- a conductance in its range
abbrev pub IsSmall : ℤ → Type 0
IsSmall g = unsigned_abs g ≤ LARGEST_ENTRY

-- the rows of the two nodes of a branch
abbrev pub end_rows : Parts → Branch → ℕ × ℕ
end_rows case b = (row_at case (from_of b), row_at case (to_of b))

-- what is held of a case, the number of its source rows and the first touched row
pub record IsHeld (case : Parts) (fixed touched : ℕ) (ends : List (ℕ × ℕ)) (rows : List (List Term))
    (own coupling : List ℤ) (kinds : List RowKind) : Type 0 where
  pub fixed_is : fixed ≡ (order_of case).fixed
  pub touched_within : touched ≤ length case.nodes
  pub ends_are : ends ≡ map (end_rows case) case.branches
  pub rows_count : length rows ≡ length case.nodes
  pub terms : HasAllTerms case rows
  pub own_count : length own ≡ length case.branches
  pub own_small : All IsSmall own
  pub mutual_count : length coupling ≡ length case.trios
  pub mutual_small : All IsSmall coupling
  pub kinds_are : AreKinds (length case.nodes) fixed kinds

-- the kinds of rows before any switch is closed
abbrev pub kinds_from : ℕ → ℕ → List RowKind
kinds_from size fixed = map (λ i. if nat_lt i fixed then Source else Kcl) (range_with_len 0 size)

abbrev pub starting_kinds : Parts → List RowKind
starting_kinds case = kinds_from (length case.nodes) (order_of case).fixed

-- what the matrix depends on before anything is set
abbrev pub nodal_at_rest : Parts → Nodal
nodal_at_rest case = record {
  case = case;
  own = replicate (length case.branches) (pos 0);
  coupling = replicate (length case.trios) (pos 0);
  kinds = starting_kinds case;
}

-- ---- filling a row

-- the terms of each row are few, and exist
abbrev pub AreRowTerms : ℕ → ℕ → ℕ → List (List Term) → Type 0
AreRowTerms nodes branches trios rows =
    (k : ℕ) → k < length rows
    → (length (slice_index_or rows k []) ≤ 15000) × All (IsTerm nodes branches trios) (slice_index_or rows k [])

-- an entry of row i, by its kind and by the terms
abbrev pub filled_entry : List (List Term) → List ℤ → List ℤ → List RowKind → ℕ → ℕ → RowKind → ℤ
filled_entry rows own coupling kinds i j Kcl = total (in_column own coupling j) (slice_index_or rows i [])
filled_entry rows own coupling kinds i j Sum =
    sum_below (length rows)
    (λ k. if is_member kinds i k then total (in_column own coupling j) (slice_index_or rows k []) else pos 0)
filled_entry rows own coupling kinds i j (Tie row) = unit i j -ℤ unit row j
filled_entry rows own coupling kinds i j Ground = unit i j
filled_entry rows own coupling kinds i j Source = unit i j
