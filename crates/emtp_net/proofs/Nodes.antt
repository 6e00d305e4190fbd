-- The rows of nodes.
use Rattle.std.proofs.Common.{◌≡◌, ◌≢◌, ◌∙◌, sym, ap, ℕ, ◌<◌, ◌≤◌, ◌==◌, ℤ, pos, ◌+ℤ◌, true, false, if◌then◌else◌, List, length, slice_set, get_or-set_same, get_or-set_other, slice_get, get_or, Some, All, subst, refl, inl, inr, arith}
use Rattle.std.proofs.lemmas.Bool.{cases_eq}
use Rattle.std.proofs.lemmas.Bool.Decides.{nat_tests}
use Rattle.std.proofs.lemmas.Int.{ints}
use Rattle.std.proofs.lemmas.List.Sums.{passes_at_first}
use Rattle.std.proofs.lemmas.Option.{get_or_from_slice_get}
use Rattle.emtp_case.specs.held.Branch.{IsBranch}
use Rattle.emtp_case.specs.held.Sizes.{sizes_of}
use Rattle.emtp_case.specs.declared.branch.Branch.{Branch}
use Rattle.emtp_elim.specs.Matrix.{item}
use Rattle.emtp_case.specs.declared.case.Parts.{Parts}
use Rattle.emtp_rows.specs.Nodal.{node_at}
use Rattle.emtp_case.specs.NodeRows.{row_at}
use Rattle.emtp_case.specs.RowOrder.{order_of}
use Rattle.emtp_case.proofs.NodeOrder.{length-order_of}
use Rattle.emtp_case.proofs.RowsOfNodes.{is_number, isnt_number, node_low, row_at_is, IsRowOf, branch_read}

pub nothing : (x : ℤ) → x ≡ x +ℤ pos 0
nothing x = omega (arith, ints)

-- an amount in the row of a node
pub node_set : (case : Parts) (out : List ℤ) (n row j : ℕ) (a : ℤ) → length out ≡ length case.nodes → IsRowOf case n row → j < length out → item (slice_set out row (item out row +ℤ a)) j ≡ item out j +ℤ (if n == node_at case j then a else pos 0)
node_set case out n row j a long is below = elim (cases_eq j row) [
  | inl same ↦
      let inside : row < length out = omega (arith, is.within, long) in
      let here : (n == node_at case row) ≡ true = is_number n (node_at case row) (sym is.there) in
      rw (same, here, get_or-set_same) refl
  | inr ne ↦
      let apart : n ≢ node_at case j = λ e. ne (is.only j (omega (arith, below, long)) (sym e)) in
      let off : (n == node_at case j) ≡ false = isnt_number n (node_at case j) apart in
      rw (off, get_or-set_other) (nothing (item out j))
]

-- ground has no row
pub ground_none : (case : Parts) (out : List ℤ) (j : ℕ) (a : ℤ) → length out ≡ length case.nodes → j < length out → item out j ≡ item out j +ℤ (if 0 == node_at case j then a else pos 0)
ground_none case out j a long below =
    let off : (0 == node_at case j) ≡ false = isnt_number 0 (node_at case j) (λ e. omega (arith, e, node_low case j (omega (arith, below, long)))) in
    rw off (nothing (item out j))

-- an amount in a row, or in none
pub row_set : (out : List ℤ) (row j : ℕ) (a : ℤ) → row < length out → item (slice_set out row (item out row +ℤ a)) j ≡ item out j +ℤ (if row == j then a else pos 0)
row_set out row j a inside = elim (cases_eq j row) [
  | inl same ↦
      let here : (row == j) ≡ true = is_number row j (sym same) in
      rw here (ap (item (slice_set out row (item out row +ℤ a))) same ∙ get_or-set_same out row (item out row +ℤ a) (pos 0) inside ∙ ap (λ k. item out k +ℤ a) (sym same))
  | inr ne ↦
      let off : (row == j) ≡ false = isnt_number row j (λ e. ne (sym e)) in
      rw (off, get_or-set_other) (nothing (item out j))
]

pub row_none : (out : List ℤ) (row j : ℕ) (a : ℤ) → length out ≤ row → j < length out → item out j ≡ item out j +ℤ (if row == j then a else pos 0)
row_none out row j a past below =
    let off : (row == j) ≡ false = isnt_number row j (λ e. omega (arith, e, past, below)) in
    rw off (nothing (item out j))

-- a row is that of a node where its node is this one
pub row_test : (case : Parts) (n j : ℕ) → j < length case.nodes → (row_at case n == j) ≡ (n == node_at case j)
row_test case n j below = elim (cases_eq n (node_at case j)) [
  | inl same ↦ is_number (row_at case n) j (row_at_is case n j below (sym same)) ∙ sym (is_number n (node_at case j) same)
  | inr ne ↦ isnt_number (row_at case n) j (λ e. ne (sym (there e))) ∙ sym (isnt_number n (node_at case j) ne)
]
  where
    is_it : (a b : ℕ) → (a == b) ≡ true → a ≡ b
    is_it a b h = grind (arith, nat_tests)

    there : row_at case n ≡ j → node_at case j ≡ n
    there e =
        let inside : row_at case n < length (order_of case).nodes = omega (arith, e, below, length-order_of case) in
        ap (node_at case) (sym e) ∙ is_it (node_at case (row_at case n)) n (passes_at_first (λ m. m == n) (order_of case).nodes 0 inside)

-- the same of another value of the case
pub branch_in : (held case : Parts) (at : ℕ) (x : Branch) → held ≡ case → slice_get case.branches at ≡ Some x → slice_get held.branches at ≡ Some x
branch_in held case at x same is = ap (λ (p : Parts). slice_get p.branches at) same ∙ is

-- the branch that is read of the one value, of the other value
pub branch_held : (held case : Parts) (bs : List Branch) (at : ℕ) (d x : Branch) → held ≡ case → bs ≡ case.branches → at < length case.branches → get_or bs at d ≡ x → slice_get held.branches at ≡ Some x
branch_held held case bs at d x same read there is = branch_in held case at x same (branch_read case bs at d x read there is)

-- the branch at a place fits the case
pub branch_fits : (case : Parts) (at : ℕ) (x : Branch) → All (IsBranch case.run (sizes_of case) case.points) case.branches → at < length case.branches → slice_get case.branches at ≡ Some x → IsBranch case.run (sizes_of case) case.points x
branch_fits case at x all there is = subst (IsBranch case.run (sizes_of case) case.points) (get_or_from_slice_get case.branches at x x is) (all at x there)
