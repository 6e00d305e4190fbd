-- The branches at a node, and sums over them.
use Rattle.std.proofs.Common.{◌≡◌, ◌∙◌, sym, ap, ℕ, zero, suc, ◌+◌, ◌<◌, ◌≤◌, ℤ, pos, ◌+ℤ◌, Bool, true, false, All, List, [], ◌∷◌, ◌++◌, length, map, take, get_or, slice_get, slice_index, add-one, length-append, refl, arith}
use Rattle.std.specs.List.{range_with_len}
use Rattle.std.proofs.lemmas.Int.{ints}
use Rattle.std.proofs.lemmas.List.{append-nil, take_all}
use Rattle.std.proofs.lemmas.List.Elements.{All-get_or, All-nil, All-push}
use Rattle.std.proofs.lemmas.List.FromFn.{get_or-map-range_with_len, length-map-range_with_len, map-range_with_len_more}
use Rattle.emtp_case.proofs.RowsOfNodes.{order_at}
use Rattle.emtp_case.proofs.Sums.{total-append, total-more}
use Rattle.emtp_case.specs.NodeRows.{node_at}
use Rattle.emtp_case.specs.RowOrder.{Rows, order_of}
use Rattle.emtp_case.specs.Sums.{sum_below, total}
use Rattle.emtp_case.specs.declared.case.Parts.{Parts}
use Rattle.emtp_phasor.specs.held.HeldBranches.{branches_at, branches_below, branches_by_row, has_end_at, place_if}

-- ---- sums

-- a sum over the first branches is the one over those at a node, where the others bring nothing
sum_below_at : (case : Parts) (n : ℕ) (f : ℕ → ℤ) → ((b : ℕ) → has_end_at n (slice_get case.branches b) ≡ false → f b ≡ pos 0) → (count : ℕ) → total f (branches_below case n count) ≡ sum_below count f
sum_below_at case n f none zero = refl
sum_below_at case n f none (suc k) = place_added f (branches_below case n k) k (sum_below k f) (has_end_at n (slice_get case.branches k)) (none k) (sum_below_at case n f none k)
  where
    place_added : (f : ℕ → ℤ) (places : List ℕ) (k : ℕ) (sum : ℤ) (b : Bool) → (b ≡ false → f k ≡ pos 0) → total f places ≡ sum → total f (places ++ place_if b k) ≡ sum +ℤ f k
    place_added f places k sum true none is = total-append f places k ∙ ap (λ s. s +ℤ f k) is
    place_added f places k sum false none is = omega (arith, ints, ap (total f) (append-nil places), is, none refl)

pub sum_at : (case : Parts) (n : ℕ) (f : ℕ → ℤ) → ((b : ℕ) → has_end_at n (slice_get case.branches b) ≡ false → f b ≡ pos 0) → total f (branches_at case n) ≡ sum_below (length case.branches) f
unfolding branches_at
sum_at case n f none = sum_below_at case n f none (length case.branches)

-- ---- places

-- each place is that of a branch
below_all : (case : Parts) (n limit count : ℕ) → count ≤ limit → All (λ b. b < limit) (branches_below case n count)
below_all case n limit zero few = All-nil (λ b. b < limit)
below_all case n limit (suc k) few = all_added limit (branches_below case n k) k (has_end_at n (slice_get case.branches k)) (omega (arith, few)) (below_all case n limit k (omega (arith, few)))
  where
    all_added : (limit : ℕ) (places : List ℕ) (k : ℕ) (b : Bool) → k < limit → All (λ b. b < limit) places → All (λ b. b < limit) (places ++ place_if b k)
    all_added limit places k true here all = All-push (λ b. b < limit) places k all here
    all_added limit places k false here all = rw (append-nil places) all

pub places_there : (case : Parts) (n : ℕ) → All (λ b. b < length case.branches) (branches_at case n)
unfolding branches_at
places_there case n = below_all case n (length case.branches) (length case.branches) (omega arith)

pub place_there : (case : Parts) (n i d : ℕ) (places : List ℕ) → places ≡ branches_at case n → i < length places → get_or places i d < length case.branches
place_there case n i d places are inside =
    let within : i < length (branches_at case n) = omega (arith, inside, ap length are) in
    rw are (All-get_or (λ b. b < length case.branches) (branches_at case n) i d within (places_there case n))

-- there are no more than branches
below_few : (case : Parts) (n count : ℕ) → length (branches_below case n count) ≤ count
below_few case n zero = omega arith
below_few case n (suc k) = few_added (branches_below case n k) k (has_end_at n (slice_get case.branches k)) (below_few case n k)
  where
    few_added : (places : List ℕ) (k : ℕ) (b : Bool) → length places ≤ k → length (places ++ place_if b k) ≤ suc k
    few_added places k true few = omega (arith, length-append places (k ∷ []), few)
    few_added places k false few = omega (arith, length-append places [], few)

pub places_few : (case : Parts) (n : ℕ) → length (branches_at case n) ≤ length case.branches
unfolding branches_at
places_few case n = below_few case n (length case.branches)

-- ---- over the places that are held

-- one place more
pub place_sum_more : (F : ℕ → ℤ) (places : List ℕ) (i : ℕ) (start before amount after : ℤ) → i < length places → amount ≡ F (get_or places i 0) → before ≡ start +ℤ total F (take i places) → after ≡ before +ℤ amount → after ≡ start +ℤ total F (take (i + 1) places)
place_sum_more F places i start before amount after inside is so_far added = omega (arith, ints, is, so_far, added, total-more F places i 0 inside)

-- the same without a start
pub place_total_more : (F : ℕ → ℤ) (places : List ℕ) (i : ℕ) (before amount after : ℤ) → i < length places → amount ≡ F (get_or places i 0) → before ≡ total F (take i places) → after ≡ before +ℤ amount → after ≡ total F (take (i + 1) places)
place_total_more F places i before amount after inside is so_far added = omega (arith, ints, is, so_far, added, total-more F places i 0 inside)

-- all of them
pub places_total : (case : Parts) (n i : ℕ) (places : List ℕ) (F : ℕ → ℤ) → ((b : ℕ) → has_end_at n (slice_get case.branches b) ≡ false → F b ≡ pos 0) → places ≡ branches_at case n → length places ≤ i → total F (take i places) ≡ sum_below (length case.branches) F
places_total case n i places F none are past = ap (total F) (take_all i places past ∙ are) ∙ sum_at case n F none

-- ---- the lists

-- one branch more
pub places_more : (case : Parts) (n at : ℕ) (old new : List ℕ) → old ≡ branches_below case n at → new ≡ old ++ place_if (has_end_at n (slice_get case.branches at)) at → new ≡ branches_below case n (at + 1)
places_more case n at old new so_far added = added ∙ ap (λ xs. xs ++ place_if (has_end_at n (slice_get case.branches at)) at) so_far ∙ next case n at
  where
    next : (case : Parts) (n at : ℕ) → branches_below case n at ++ place_if (has_end_at n (slice_get case.branches at)) at ≡ branches_below case n (at + 1)
    next case n at = rw add-one refl

pub places_all : (case : Parts) (n count : ℕ) (places : List ℕ) → count ≡ length case.branches → places ≡ branches_below case n count → places ≡ branches_at case n
unfolding branches_at
places_all case n count places all is = is ∙ ap (branches_below case n) all

-- one row more
pub lists_more : (case : Parts) (row node : ℕ) (places : List ℕ) (old new : List (List ℕ)) → node ≡ node_at case row → places ≡ branches_at case node → new ≡ old ++ places ∷ [] → old ≡ map (λ i. branches_at case (node_at case i)) (range_with_len 0 row)
    → new ≡ map (λ i. branches_at case (node_at case i)) (range_with_len 0 (row + 1))
lists_more case row node places old new there is pushed so_far =
    let F : ℕ → List ℕ = λ i. branches_at case (node_at case i) in
    let here : places ≡ F row = is ∙ ap (branches_at case) there in
    pushed ∙ ap (λ x. old ++ x ∷ []) here ∙ ap (λ xs. xs ++ F row ∷ []) so_far ∙ sym (map-range_with_len_more F 0 row row (omega arith))

pub lists_all : (case : Parts) (count : ℕ) (lists : List (List ℕ)) → count ≡ length case.nodes → lists ≡ map (λ i. branches_at case (node_at case i)) (range_with_len 0 count) → lists ≡ branches_by_row case
unfolding branches_by_row
lists_all case count lists all is = is ∙ ap (λ n. map (λ i. branches_at case (node_at case i)) (range_with_len 0 n)) all

pub lists_count : (case : Parts) → length (branches_by_row case) ≡ length case.nodes
unfolding branches_by_row
lists_count case = length-map-range_with_len (λ i. branches_at case (node_at case i)) 0 (length case.nodes)

-- the list that an index read
pub list_read : (case : Parts) (lists : List (List ℕ)) (row node : ℕ) (x places : List ℕ) → lists ≡ branches_by_row case → row < length case.nodes → x ≡ get_or lists row x → places ≡ x → node ≡ node_at case row → places ≡ branches_at case node
unfolding branches_by_row
list_read case lists row node x places are inside read is there =
    is ∙ read ∙ ap (λ ls. get_or ls row x) are ∙ get_or-map-range_with_len (λ i. branches_at case (node_at case i)) 0 (length case.nodes) row row x inside (omega arith) ∙ ap (branches_at case) (sym there)

-- that of the node of a row
pub node_list : (case : Parts) (order : Rows) (lists : List (List ℕ)) (row node : ℕ) (x places : List ℕ) → order ≡ order_of case → lists ≡ branches_by_row case → row < length case.nodes → slice_index order.nodes row ≡ node → x ≡ get_or lists row x → places ≡ x → places ≡ branches_at case node
node_list case order lists row node x places order_is are inside there read is = list_read case lists row node x places are inside read is (sym there ∙ order_at case order row order_is)
