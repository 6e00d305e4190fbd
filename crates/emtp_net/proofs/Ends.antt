-- What branches bring to the rows of their nodes.
use Rattle.std.proofs.Common.{◌≡◌, ◌∙◌, sym, ap, ℕ, ◌+◌, ◌*◌, ◌<◌, ◌≤◌, ◌==◌, ℤ, pos, ◌+ℤ◌, unsigned_abs, Bool, true, false, if◌then◌else◌, List, length, map, get_or, slice_get, Option, Some, None, arith}
use Rattle.std.proofs.lemmas.Int.{ints}
use Rattle.std.proofs.lemmas.List.{get_or-map}
use Rattle.std.proofs.lemmas.Option.{slice_get-get_or}
use Rattle.emtp_case.specs.Branch.{from_of, to_of}
use Rattle.emtp_case.specs.NodeRows.{node_at, row_at}
use Rattle.emtp_case.specs.declared.branch.Branch.{Branch}
use Rattle.emtp_case.specs.declared.branch.Branch.TheVariants.{Lumped as OfLumped}
use Rattle.emtp_case.specs.declared.case.Parts.{Parts}
use Rattle.emtp_case.specs.Sums.{sum_below}
use Rattle.emtp_case.proofs.Sums.{sum_below-more}
use Rattle.emtp_rows.specs.held.Terms.{end_rows}
use Rattle.emtp_net.specs.System.{at_node}
use Rattle.emtp_net.proofs.Nodes.{row_test}

if_small : (b : Bool) (x : ℤ) (limit : ℕ) → unsigned_abs x ≤ limit → unsigned_abs (if b then x else pos 0) ≤ limit
if_small true x limit small = small
if_small false x limit small = omega (arith, ints)

-- what a branch brings to a node is no more than both of its ends
pub at_node_small : (n : ℕ) (b : Option Branch) (ends : ℤ × ℤ) (limit : ℕ) → unsigned_abs ends.0 ≤ limit → unsigned_abs ends.1 ≤ limit → unsigned_abs (at_node n b ends) ≤ 2 * limit
at_node_small n None ends limit first second = omega (arith, ints)
at_node_small n (Some b) ends limit first second = omega (arith, ints, if_small (from_of b == n) ends.0 limit first, if_small (to_of b == n) ends.1 limit second)

-- what it brings to its two rows is what it brings to their nodes
pub ends_at : (case : Parts) (rows : List (ℕ × ℕ)) (at : ℕ) (d : ℕ × ℕ) (j : ℕ) (x y : ℤ) → rows ≡ map (end_rows case) case.branches → at < length case.branches → j < length case.nodes
    → (if (get_or rows at d).0 == j then x else pos 0) +ℤ (if (get_or rows at d).1 == j then y else pos 0) ≡ at_node (node_at case j) (slice_get case.branches at) (x, y)
ends_at case rows at d j x y are there below =
    let none : Branch = OfLumped (record { line = 0; from = 0; to = 0; r = pos 0; l = pos 0; c = pos 0 }) in
    let b : Branch = get_or case.branches at none in
    let is : slice_get case.branches at ≡ Some b = slice_get-get_or case.branches at none there in
    let read : get_or rows at d ≡ end_rows case b = ap (λ (rs : List (ℕ × ℕ)). get_or rs at d) are ∙ get_or-map (end_rows case) case.branches at none d there in
    ap (λ (r : ℕ × ℕ). (if r.0 == j then x else pos 0) +ℤ (if r.1 == j then y else pos 0)) read
    ∙ ap (λ (t : Bool). (if t then x else pos 0) +ℤ (if row_at case (to_of b) == j then y else pos 0)) (row_test case (from_of b) j below)
    ∙ ap (λ (t : Bool). (if from_of b == node_at case j then x else pos 0) +ℤ (if t then y else pos 0)) (row_test case (to_of b) j below)
    ∙ sym (ap (λ o. at_node (node_at case j) o (x, y)) is)

-- one branch more
pub ends_more : (case : Parts) (f : ℕ → ℤ × ℤ) (n at : ℕ) (before after : ℤ) (ends : ℤ × ℤ) → ends ≡ f at → before ≡ sum_below at (λ b. at_node n (slice_get case.branches b) (f b)) → after ≡ before +ℤ at_node n (slice_get case.branches at) ends
    → after ≡ sum_below (at + 1) (λ b. at_node n (slice_get case.branches b) (f b))
ends_more case f n at before after ends is so_far added =
    let F : ℕ → ℤ = λ b. at_node n (slice_get case.branches b) (f b) in
    added ∙ ap (λ x. x +ℤ at_node n (slice_get case.branches at) ends) so_far ∙ ap (λ e. sum_below at F +ℤ at_node n (slice_get case.branches at) e) is ∙ sym (sum_below-more at F)

-- how large it may be
pub ends_bound : (n at : ℕ) (o : Option Branch) (before after x y : ℤ) (limit : ℕ) → unsigned_abs x ≤ limit → unsigned_abs y ≤ limit → unsigned_abs before ≤ at * (2 * limit) → after ≡ before +ℤ at_node n o (x, y) → unsigned_abs after ≤ (at + 1) * (2 * limit)
ends_bound n at o before after x y limit first second small added =
    let here = at_node_small n o (x, y) limit first second in
    omega (arith, ints, here, small, added)
