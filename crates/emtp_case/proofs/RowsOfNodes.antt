-- The rows of nodes, and the nodes of rows.
use Rattle.std.proofs.Common.{◌≡◌, ◌≢◌, ◌∙◌, sym, ap, ℕ, ◌==◌, ◌<◌, ◌≤◌, true, false, not, List, length, slice_index, slice_get, get_or, Some, subst, inl, inr, arith}
use Rattle.std.specs.List.{range_with_len}
use Rattle.std.specs.List.Sorted.{IsPermutation}
use Rattle.std.proofs.lemmas.Bool.{cases_lt}
use Rattle.std.proofs.lemmas.Bool.Decides.{nat_tests}
use Rattle.std.proofs.lemmas.List.FromFn.{length-range_with_len}
use Rattle.std.proofs.lemmas.List.Sums.{count_by-le-length, position_or_len_is, prefix_len-le-length}
use Rattle.std.proofs.lemmas.Option.{slice_get-get_or}
use Rattle.emtp_case.specs.held.EndNames.{IsNode}
use Rattle.emtp_case.specs.NodeRows.{node_at, row_at}
use Rattle.emtp_case.specs.RowOrder.{Rows, has_source, order_of}
use Rattle.emtp_case.specs.declared.branch.Branch.{Branch}
use Rattle.emtp_case.specs.declared.case.Parts.{Parts}
use Rattle.emtp_case.proofs.NodeOrder.{order_of-IsRowOrder, length-order_of}
use Rattle.emtp_case.proofs.RowTables.{nodes_within, nodes_apart}

pub is_number : (a b : ℕ) → a ≡ b → (a == b) ≡ true
is_number a b e = grind (arith, nat_tests)

pub isnt_number : (a b : ℕ) → a ≢ b → (a == b) ≡ false
isnt_number a b e = grind (arith, nat_tests)

each_once : (case : Parts) → IsPermutation (range_with_len 1 (length (order_of case).nodes)) (order_of case).nodes
each_once case =
    let order = order_of-IsRowOrder case in
    let P : ℕ → Type 0 = λ n. IsPermutation (range_with_len 1 n) (order_of case).nodes in
    subst P (sym (length-order_of case)) order.each_once

pub row_named : (case : Parts) (row : ℕ) → row < length case.nodes → IsNode case (node_at case row)
row_named case row below =
    let n = length-order_of case in
    let both = nodes_within (order_of case).nodes (each_once case) row (omega (arith, below, n)) in
    record { low = both.0; high = omega (arith, both.1, n) }

-- no row is that of ground
pub node_low : (case : Parts) (row : ℕ) → row < length case.nodes → 1 ≤ node_at case row
node_low case row below = (row_named case row below).low

pub fixed_within : (case : Parts) → (order_of case).fixed ≤ length case.nodes
fixed_within case = omega (arith, count_by-le-length (has_source case) (range_with_len 1 (length case.nodes)), length-range_with_len 1 (length case.nodes))

-- each node stands in one row
pub rows_apart : (case : Parts) (k row : ℕ) → k < length case.nodes → row < length case.nodes → k ≢ row → node_at case k ≢ node_at case row
rows_apart case k row below inside apart = elim (cases_lt k row) [
  | inl before ↦ nodes_apart (order_of case).nodes (each_once case) k row before (omega (arith, inside, length-order_of case))
  | inr after ↦ λ e. nodes_apart (order_of case).nodes (each_once case) row k (omega (arith, after, apart)) (omega (arith, below, length-order_of case)) (sym e)
]

-- the row of a node, and none for ground
pub row_at_is : (case : Parts) (n row : ℕ) → row < length case.nodes → node_at case row ≡ n → row_at case n ≡ row
row_at_is case n row inside is = position_or_len_is (λ m. m == n) (order_of case).nodes row 0 (omega (arith, inside, length-order_of case))
    (λ k before. isnt_number (node_at case k) n (λ e. rows_apart case k row (omega (arith, before, inside)) inside (λ same. omega (arith, before, same)) (e ∙ sym is)))
    (λ there. is_number (node_at case row) n is)

pub row_at_ground : (case : Parts) → row_at case 0 ≡ length case.nodes
row_at_ground case =
    position_or_len_is (λ m. m == 0) (order_of case).nodes (length (order_of case).nodes) 0 (omega arith)
    (λ k before. isnt_number (node_at case k) 0 (λ e. omega (arith, e, node_low case k (omega (arith, before, length-order_of case)))))
    (λ there. absurd (omega (arith, there)))
    ∙ length-order_of case

pub row_at_within : (case : Parts) (n : ℕ) → row_at case n ≤ length case.nodes
row_at_within case n = omega (arith, prefix_len-le-length (λ m. not (m == n)) (order_of case).nodes, length-order_of case)

-- ---- what the calls of a row order say, of the case

-- the row of a node
pub record IsRowOf (case : Parts) (n row : ℕ) : Type 0 where
  pub within : row < length case.nodes
  pub there : node_at case row ≡ n
  pub only : (k : ℕ) → k < length case.nodes → node_at case k ≡ n → k ≡ row

pub order_size : (case : Parts) (order : Rows) → order ≡ order_of case → length order.nodes ≡ length case.nodes
order_size case order is = ap (λ (o : Rows). length o.nodes) is ∙ length-order_of case

pub order_at : (case : Parts) (order : Rows) (i : ℕ) → order ≡ order_of case → slice_index order.nodes i ≡ node_at case i
order_at case order i is = ap (λ (o : Rows). slice_index o.nodes i) is

-- what row_of says
pub row_read : (case : Parts) (order : Rows) (n row : ℕ) → order ≡ order_of case → row < length order.nodes → slice_index order.nodes row ≡ n → ((k : ℕ) → k < length order.nodes → slice_index order.nodes k ≡ n → k ≡ row) → IsRowOf case n row
row_read case order n row is within there only = record {
  within = omega (arith, within, order_size case order is);
  there = sym (order_at case order row is) ∙ there;
  only = λ k below e. only k (omega (arith, below, order_size case order is)) (order_at case order k is ∙ e);
}

-- what node_at says
pub row_node : (case : Parts) (order : Rows) (node : ℕ) → order ≡ order_of case → 1 ≤ node → node ≤ length order.nodes → IsNode case node
row_node case order node is low high = record { low = low; high = omega (arith, high, order_size case order is) }

-- the branch that an index read
pub branch_read : (case : Parts) (bs : List Branch) (at : ℕ) (d x : Branch) → bs ≡ case.branches → at < length case.branches → get_or bs at d ≡ x → slice_get case.branches at ≡ Some x
branch_read case bs at d x same there is = slice_get-get_or case.branches at d there ∙ ap (λ xs. Some (get_or xs at d)) (sym same) ∙ ap Some is
