-- The groups that the code finds, its tree and its kinds.
use Rattle.std.proofs.Common.{◌≡◌, ◌≤◌, ◌<◌, ◌+◌, ◌==◌, ◌&&◌, ◌++◌, ℕ, suc, List, Option, Bool, not, drop, length, map, reverse, slice_index, take, refl, ap, sym, ◌∙◌, subst, inl, inr, arith}
use Rattle.std.specs.List.{All, range_with_len}
use Rattle.std.specs.List.Sorted.{IsPermutation}
use Rattle.std.proofs.lemmas.Bool.{cases_eq}
use Rattle.std.proofs.lemmas.List.{get_or_default, take-append-drop}
use Rattle.std.proofs.lemmas.List.Elements.{All-cons, All-take, All-from_get_or}
use Rattle.std.proofs.lemmas.List.FromFn.{get_or-map-range_with_len, length-range_with_len}
use Rattle.std.proofs.lemmas.List.Sorted.{All-permutation, Contains-permutation, IsPermutation-append_right, IsPermutation-reverse}
use Rattle.emtp_case.proofs.RowTables.{node_there, nodes_within}
use Rattle.emtp_case.specs.RowOrder.{Rows, touches_switch}
use Rattle.emtp_case.specs.held.RowOrder.{IsRowOrder}
use Rattle.emtp_case.specs.declared.case.Parts.{Parts}
use Rattle.emtp_case.specs.declared.switch.Switch.{Switch}
use Rattle.emtp_case.specs.declared.switch.SwitchState.{SwitchState}
use Rattle.emtp_switch.specs.Groups.{alone, by_rank, closed_switches, first_tied, groups, known_nodes, root_of, tied_of}
use Rattle.emtp_switch.specs.held.Groups.{EndWithin}
use Rattle.emtp_switch.specs.Kinds.{has_member, kind_by, kind_of}
use Rattle.emtp_switch.specs.held.Plan.{IsPlan, MarksKnown}
use Rattle.emtp_switch.specs.held.Tallies.{ends_from, ends_of, is_empty_tally, kind_found, no_ends, tally_at, tally_of}
use Rattle.emtp_switch.specs.held.Tree.{IsRanked, IsTree}
use Rattle.emtp_switch.specs.declared.kinds.Ends.{Ends}
use Rattle.emtp_switch.specs.declared.kinds.Tally.{Tally}
use Rattle.emtp_switch.specs.declared.plan.Plan.{Plan}
use Rattle.emtp_switch.specs.declared.sweep.Link.{Link}
use Rattle.emtp_switch.proofs.Alike.{any_same, map_same}
use Rattle.emtp_switch.proofs.GroupRoots.{alone_small, groups_small}
use Rattle.emtp_switch.proofs.Plans.{once_each}

pub rows_within : (p : Parts) (rows : Rows) → IsRowOrder p rows → (row : ℕ) → row < length rows.nodes → slice_index rows.nodes row ≤ length rows.nodes
rows_within p rows is row inside = (nodes_within rows.nodes (once_each p rows is) row inside).1

-- each node stands in the rank
pub rank_is : (p : Parts) (rows : Rows) → IsRowOrder p rows → IsRanked rows (by_rank rows)
rank_is p rows is = record {
  ranked_is = refl;
  within = All-cons (λ k. k < n + 1) 0 ys (omega arith) (All-permutation (λ k. k < n + 1) rows.nodes ys moved (All-from_get_or (λ k. k < n + 1) rows.nodes 0 (λ i below. omega (arith, (nodes_within rows.nodes once i below).1))));
  each = λ x in_x. elim (cases_eq x 0) [
    | inl here ↦ (0, omega arith, sym here)
    | inr ne ↦
        let (row, below, at) = node_there rows.nodes once x (omega arith) in_x in
        let (k, inside, there) = Contains-permutation rows.nodes ys x moved (row, below, sym (get_or_default rows.nodes row 0 x below) ∙ at) in
        (suc k, omega arith, there)
  ];
}
  where
    n : ℕ
    n = length rows.nodes

    once : IsPermutation (range_with_len 1 n) rows.nodes
    once = once_each p rows is

    ys : List ℕ
    ys = take rows.fixed rows.nodes ++ reverse (drop rows.fixed rows.nodes)

    moved : IsPermutation rows.nodes ys
    moved = subst (λ l. IsPermutation l ys) (take-append-drop rows.fixed rows.nodes) (IsPermutation-append_right (take rows.fixed rows.nodes) (drop rows.fixed rows.nodes) (reverse (drop rows.fixed rows.nodes)) (IsPermutation-reverse (drop rows.fixed rows.nodes)))

pub ranked_is : (p : Parts) (rows : Rows) (plan : Plan) → IsPlan p rows plan → IsRanked rows plan.ranked.items
ranked_is p rows plan is = subst (IsRanked rows) (sym is.ranked) (rank_is p rows is.order)

-- the labels are those of nodes
pub labels_small : (switches : List Switch) (nodes : ℕ) (es labels : List ℕ) (room : ℕ) → EndWithin switches (nodes + 1) → labels ≡ groups switches (alone nodes) es → room ≡ nodes + 1
    → (x : ℕ) → x < length labels → slice_index labels x < room
labels_small switches nodes es labels room within is count = λ x below.
    let w : EndWithin switches (length (alone nodes)) = rw (length-range_with_len 0 (nodes + 1)) within in
    let inside : x < length (groups switches (alone nodes) es) = omega (arith, ap length is) in
    let one = groups_small switches (alone nodes) es (nodes + 1) w (alone_small nodes) x inside in
    omega (arith, one, count, ap (λ l. slice_index l x) is)

-- the tree that is found, by the lists of the case
pub tree_found : (switches read : List Switch) (rows : Rows) (es taken labels : List ℕ) (links kept : List Link) → read ≡ switches → taken ≡ es → labels ≡ groups switches (alone (length rows.nodes)) es → kept ≡ links
    → IsTree read rows taken (groups read (alone (length rows.nodes)) taken) links → IsTree switches rows es labels kept
tree_found switches read rows es taken labels links kept same_switches same_es labels_are same_links tree =
    let n = length rows.nodes in
    subst (λ l. IsTree switches rows es l kept) (sym labels_are)
    (subst (IsTree switches rows es (groups switches (alone n) es)) (sym same_links)
    (subst (λ e. IsTree switches rows e (groups switches (alone n) e) links) same_es (subst (λ sw. IsTree sw rows taken (groups sw (alone n) taken) links) same_switches tree)))

pub same_tree : (switches : List Switch) (rows : Rows) (es fs labels : List ℕ) (links : List Link) → es ≡ fs → labels ≡ groups switches (alone (length rows.nodes)) fs → IsTree switches rows es labels links
    → IsTree switches rows fs (groups switches (alone (length rows.nodes)) fs) links
same_tree switches rows es fs labels links e are tree = subst (λ l. IsTree switches rows fs l links) are (subst (λ k. IsTree switches rows k labels links) e tree)

pub known_within : (rows : Rows) → ((row : ℕ) → row < length rows.nodes → slice_index rows.nodes row ≤ length rows.nodes) → All (λ k. k < length rows.nodes + 1) (known_nodes rows)
known_within rows there =
    let n = length rows.nodes in
    All-cons (λ k. k < n + 1) 0 (take rows.fixed rows.nodes) (omega arith)
    (All-take (λ k. k < n + 1) rows.fixed rows.nodes (All-from_get_or (λ k. k < n + 1) rows.nodes 0 (λ i below. omega (arith, there i below))))

-- the first switch that joins two known voltages, by the lists of the case
pub tied_found : (read switches : List Switch) (rows : Rows) (states : List SwitchState) (labels : List ℕ) (marks known : List Bool) (tied : Option ℕ) → read ≡ switches → labels ≡ alone (length rows.nodes) → marks ≡ known
    → ((row : ℕ) → row < length rows.nodes → slice_index rows.nodes row ≤ length rows.nodes) → MarksKnown (known_nodes rows) (alone (length rows.nodes)) known
    → ((ks : List ℕ) → All (λ k. k < length labels) ks → MarksKnown ks labels marks → tied ≡ first_tied read ks labels (closed_switches states)) → tied ≡ tied_of switches rows states
tied_found read switches rows states labels marks known tied same_switches labels_are same_marks there marked found =
    found (known_nodes rows) (subst (λ n. All (λ k. k < n) (known_nodes rows)) (sym (ap length labels_are ∙ length-range_with_len 0 (length rows.nodes + 1))) (known_within rows there))
    (subst (λ l. MarksKnown (known_nodes rows) l marks) (sym labels_are) (subst (MarksKnown (known_nodes rows) (alone (length rows.nodes))) (sym same_marks) marked))
    ∙ ap (λ l. first_tied read (known_nodes rows) l (closed_switches states)) labels_are ∙ ap (λ sw. first_tied sw (known_nodes rows) (alone (length rows.nodes)) (closed_switches states)) same_switches

-- Kinds

-- by the tables of the code
pub kinds_found : (p : Parts) (rows : Rows) (plan : Plan) (labels roots : List ℕ) (tallies : List Tally) → IsPlan p rows plan
    → ((x : ℕ) → x ≤ length rows.nodes → slice_index roots (slice_index labels x) ≡ root_of rows labels x)
    → ((x : ℕ) → x ≤ length rows.nodes → tally_at tallies (slice_index labels x) ≡ tally_of rows.nodes labels plan.ends.items (slice_index labels x))
    → map (kind_found rows labels roots tallies) rows.nodes ≡ map (kind_of p rows labels) rows.nodes
kinds_found p rows plan labels roots tallies is roots_are tallies_are =
    map_same (kind_found rows labels roots tallies) (kind_of p rows labels) rows.nodes (All-from_get_or (λ x. kind_found rows labels roots tallies x ≡ kind_of p rows labels x) rows.nodes 0 (λ row below. one (slice_index rows.nodes row) (is.nodes_within row below)))
  where
    ends_at : (x : ℕ) → x ≤ length rows.nodes → ends_from plan.ends.items x ≡ ends_of p x
    ends_at x in_x = ap (λ l. ends_from l x) is.ends ∙ get_or-map-range_with_len (ends_of p) 0 (length rows.nodes + 1) x x no_ends (omega arith) (omega arith)

    member_same : (test : Ends → Bool) (l : ℕ) → has_member rows.nodes labels (λ x. test (ends_from plan.ends.items x)) l ≡ has_member rows.nodes labels (λ x. test (ends_of p x)) l
    member_same test l =
        any_same (λ x. slice_index labels x == l && test (ends_from plan.ends.items x)) (λ x. slice_index labels x == l && test (ends_of p x)) rows.nodes
        (All-from_get_or (λ x. (slice_index labels x == l && test (ends_from plan.ends.items x)) ≡ (slice_index labels x == l && test (ends_of p x))) rows.nodes 0
        (λ row below. ap (λ (e : Ends). slice_index labels (slice_index rows.nodes row) == l && test e) (ends_at (slice_index rows.nodes row) (is.nodes_within row below))))

    one : (x : ℕ) → x ≤ length rows.nodes → kind_found rows labels roots tallies x ≡ kind_of p rows labels x
    one x in_x =
        let l = slice_index labels x in
        let t = tally_of rows.nodes labels plan.ends.items l in
        ap (λ (u : Tally). kind_by rows x (slice_index roots l) (is_empty_tally u) (u.nodes == 1)) (tallies_are x in_x)
        ∙ ap (λ r. kind_by rows x r (is_empty_tally t) (t.nodes == 1)) (roots_are x in_x)
        ∙ ap (λ b. kind_by rows x (root_of rows labels x) (b && not t.has_feed) (t.nodes == 1)) (member_same (λ e. e.switch) l)
        ∙ ap (λ b. kind_by rows x (root_of rows labels x) (has_member rows.nodes labels (touches_switch p) l && not b) (t.nodes == 1)) (member_same (λ e. e.feed) l)
