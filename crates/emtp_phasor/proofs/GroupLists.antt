-- The rows of a group, and sums over them.
use Rattle.std.proofs.Common.{◌≡◌, ◌∙◌, sym, ap, ℕ, zero, suc, ◌+◌, ◌*◌, ◌^◌, ◌<◌, ◌≤◌, ℤ, pos, ◌+ℤ◌, unsigned_abs, Bool, true, false, if◌then◌else◌, All, List, [], ◌∷◌, ◌++◌, length, length-take-le, map, take, get_or, length-append, refl, arith}
use Rattle.std.specs.List.{range_with_len}
use Rattle.std.proofs.lemmas.Int.{ints}
use Rattle.std.proofs.lemmas.List.{append-nil}
use Rattle.std.proofs.lemmas.List.Elements.{All-nil, All-push}
use Rattle.std.proofs.lemmas.List.FromFn.{get_or-map-range_with_len, length-map-range_with_len, map-range_with_len_more}
use Rattle.emtp_case.proofs.Sums.{total-append, total_small}
use Rattle.emtp_case.specs.NodeRows.{is_member, node_at}
use Rattle.emtp_case.specs.Sums.{sum_below, total}
use Rattle.emtp_case.specs.declared.case.Parts.{Parts}
use Rattle.emtp_case.specs.declared.limit.TheConstants.{MOST_BRANCHES, MOST_NODES}
use Rattle.emtp_case.specs.declared.row_kind.RowKind.{RowKind}
use Rattle.emtp_admittance.specs.held.Admittances.{IsSmallPort}
use Rattle.emtp_admittance.specs.declared.admittance.TwoPort.{TwoPort}
use Rattle.emtp_phasor.specs.Doubled.{admittance_entry}
use Rattle.emtp_phasor.specs.held.HeldBranches.{place_if}
use Rattle.emtp_phasor.specs.held.HeldGroups.{members_below, members_by_row, members_of}
use Rattle.emtp_phasor.proofs.Ports.{current_small}

-- ---- sums

-- a sum over the rows of a group is the one over all rows of which the others bring nothing
sum_below_members : (kinds : List RowKind) (i : ℕ) (f : ℕ → ℤ) (count : ℕ) → total f (members_below kinds i count) ≡ sum_below count (λ k. if is_member kinds i k then f k else pos 0)
sum_below_members kinds i f zero = refl
sum_below_members kinds i f (suc k) = member_added f (members_below kinds i k) k (sum_below k (λ k. if is_member kinds i k then f k else pos 0)) (is_member kinds i k) (sum_below_members kinds i f k)
  where
    member_added : (f : ℕ → ℤ) (members : List ℕ) (k : ℕ) (sum : ℤ) (b : Bool) → total f members ≡ sum → total f (members ++ place_if b k) ≡ sum +ℤ (if b then f k else pos 0)
    member_added f members k sum true is = total-append f members k ∙ ap (λ s. s +ℤ f k) is
    member_added f members k sum false is = omega (arith, ints, ap (total f) (append-nil members), is)

pub members_total : (kinds : List RowKind) (i count : ℕ) (members : List ℕ) (f : ℕ → ℤ) → count ≡ length kinds → members ≡ members_of kinds i
    → total f members ≡ sum_below count (λ k. if is_member kinds i k then f k else pos 0)
unfolding members_of
members_total kinds i count members f all are =
    ap (total f) are ∙ sum_below_members kinds i f (length kinds) ∙ ap (λ n. sum_below n (λ k. if is_member kinds i k then f k else pos 0)) (sym all)

-- ---- places

-- each member is a row
below_all : (kinds : List RowKind) (i limit count : ℕ) → count ≤ limit → All (λ k. k < limit) (members_below kinds i count)
below_all kinds i limit zero few = All-nil (λ k. k < limit)
below_all kinds i limit (suc k) few = all_added limit (members_below kinds i k) k (is_member kinds i k) (omega (arith, few)) (below_all kinds i limit k (omega (arith, few)))
  where
    all_added : (limit : ℕ) (members : List ℕ) (k : ℕ) (b : Bool) → k < limit → All (λ k. k < limit) members → All (λ k. k < limit) (members ++ place_if b k)
    all_added limit members k true here all = All-push (λ k. k < limit) members k all here
    all_added limit members k false here all = rw (append-nil members) all

pub members_there : (kinds : List RowKind) (i size : ℕ) (members : List ℕ) → length kinds ≡ size → members ≡ members_of kinds i → All (λ k. k < size) members
unfolding members_of
members_there kinds i size members sized are = rw are (below_all kinds i size (length kinds) (omega (arith, sized)))

-- there are no more than rows
below_few : (kinds : List RowKind) (i count : ℕ) → length (members_below kinds i count) ≤ count
below_few kinds i zero = omega arith
below_few kinds i (suc k) = few_added (members_below kinds i k) k (is_member kinds i k) (below_few kinds i k)
  where
    few_added : (members : List ℕ) (k : ℕ) (b : Bool) → length members ≤ k → length (members ++ place_if b k) ≤ suc k
    few_added members k true few = omega (arith, length-append members (k ∷ []), few)
    few_added members k false few = omega (arith, length-append members [], few)

pub members_few : (kinds : List RowKind) (i : ℕ) (members : List ℕ) → members ≡ members_of kinds i → length members ≤ length kinds
unfolding members_of
members_few kinds i members are = rw are (below_few kinds i (length kinds))

-- what the nodes of members put into a row stays far from the limits
pub members_small : (case : Parts) (ports : List TwoPort) (row column : Bool) (m i : ℕ) (members : List ℕ) → All IsSmallPort ports → i ≤ length members → length members ≤ MOST_NODES → length case.branches ≤ MOST_BRANCHES
    → unsigned_abs (total (λ k. admittance_entry case ports row column (node_at case k) m) (take i members)) ≤ 2 * 10 ^ 24
members_small case ports row column m i members small within few branches =
    let F : ℕ → ℤ = λ k. admittance_entry case ports row column (node_at case k) m in
    let short : length (take i members) ≤ MOST_NODES = omega (arith, length-take-le i members within, within, few) in
    omega (arith, short, total_small F (2 * 10 ^ 21) (λ k. current_small case ports row column (node_at case k) m small branches) (take i members))

-- ---- the lists

-- all rows
pub members_all : (kinds : List RowKind) (i count : ℕ) (members : List ℕ) → count ≡ length kinds → members ≡ members_below kinds i count → members ≡ members_of kinds i
unfolding members_of
members_all kinds i count members all is = is ∙ ap (members_below kinds i) all

-- one list more
pub groups_more : (kinds : List RowKind) (row : ℕ) (members : List ℕ) (old new : List (List ℕ)) → members ≡ members_of kinds row → new ≡ old ++ members ∷ [] → old ≡ map (λ i. members_of kinds i) (range_with_len 0 row)
    → new ≡ map (λ i. members_of kinds i) (range_with_len 0 (row + 1))
groups_more kinds row members old new is pushed so_far =
    let F : ℕ → List ℕ = λ i. members_of kinds i in
    pushed ∙ ap (λ x. old ++ x ∷ []) is ∙ ap (λ xs. xs ++ F row ∷ []) so_far ∙ sym (map-range_with_len_more F 0 row row (omega arith))

pub groups_all : (kinds : List RowKind) (count : ℕ) (groups : List (List ℕ)) → count ≡ length kinds → groups ≡ map (λ i. members_of kinds i) (range_with_len 0 count) → groups ≡ members_by_row kinds
unfolding members_by_row
groups_all kinds count groups all is = is ∙ ap (λ n. map (λ i. members_of kinds i) (range_with_len 0 n)) all

pub groups_count : (kinds : List RowKind) → length (members_by_row kinds) ≡ length kinds
unfolding members_by_row
groups_count kinds = length-map-range_with_len (λ i. members_of kinds i) 0 (length kinds)

-- the list that an index read
pub group_read : (kinds : List RowKind) (groups : List (List ℕ)) (row size : ℕ) (x members : List ℕ) → groups ≡ members_by_row kinds → length kinds ≡ size → row < size → x ≡ get_or groups row x → members ≡ x → members ≡ members_of kinds row
unfolding members_by_row
group_read kinds groups row size x members are sized below read is =
    let inside : row < length kinds = omega (arith, sized, below) in
    is ∙ read ∙ ap (λ ls. get_or ls row x) are ∙ get_or-map-range_with_len (λ i. members_of kinds i) 0 (length kinds) row row x inside (omega arith)
