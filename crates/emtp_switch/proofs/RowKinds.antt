-- The kinds fit the order of the rows: sources come first, and ties name rows.
use Rattle.std.proofs.Common.{◌≡◌, ◌≢◌, ◌∙◌, ℕ, suc, ◌+◌, ◌<◌, ◌≤◌, ◌==◌, ◌∷◌, [], Bool, true, false, if◌then◌else◌, List, length, map, drop, reverse, slice_index, slice_index_or, nat_lt, Some, None, refl, ap, sym, subst, inl, inr, arith}
use Rattle.std.specs.List.{All, Contains, position_or_len, range_with_len}
use Rattle.std.specs.Option.{unwrap_or}
use Rattle.std.proofs.lemmas.Bool.{cases_Bool, cases_eq, cases_lt, cond-false, cond-true, eq-eqb, eqb-true, lt-ltb, ne_eqb, true≢false}
use Rattle.std.proofs.lemmas.List.{get_or_default, get_or-map, get_or-take, length-map, length-take}
use Rattle.std.proofs.lemmas.List.Elements.{All-filter, All-map, All-contains}
use Rattle.std.proofs.lemmas.List.FromFn.{get_or-range_with_len, length-range_with_len}
use Rattle.std.proofs.lemmas.List.Sums.{fails_before_first}
use Rattle.emtp_case.proofs.RowTables.{node_there, nodes_within}
use Rattle.emtp_case.specs.held.RowKinds.{AreKinds, TieIsThere}
use Rattle.emtp_case.specs.RowOrder.{Rows}
use Rattle.emtp_case.specs.held.RowOrder.{IsRowOrder}
use Rattle.emtp_case.specs.declared.case.Parts.{Parts}
use Rattle.emtp_case.specs.declared.row_kind.RowKind.{RowKind}
use Rattle.emtp_case.specs.declared.row_kind.RowKind.TheVariants.{Ground, Kcl, Source as OfSource, Sum, Tie}
use Rattle.emtp_case.specs.declared.switch.Switch.{Switch}
use Rattle.emtp_case.specs.declared.switch.SwitchState.{SwitchState}
use Rattle.emtp_switch.specs.Groups.{alone, by_rank, closed_switches, first_tied, is_closed_at, join, known_nodes, labels_of, root_of, tied_of, ties}
use Rattle.emtp_switch.specs.held.Groups.{EndWithin}
use Rattle.emtp_switch.specs.Kinds.{count_members, is_empty, kind_by, kind_of, kinds_of, row_of}
use Rattle.emtp_switch.specs.held.Plan.{IsPlan}
use Rattle.emtp_switch.specs.declared.plan.Plan.{Plan}
use Rattle.emtp_switch.proofs.GroupRoots.{root_within, first_in}
use Rattle.emtp_switch.proofs.Meetings.{none_meet}
use Rattle.emtp_switch.proofs.Plans.{once_each, own_label}
use Rattle.emtp_switch.proofs.Regrouping.{known_within, rank_is, rows_within}

-- a node stands no later than at a place where it is
first_no_later : (nodes : List ℕ) (node i : ℕ) → slice_index nodes i ≡ node → i < length nodes → position_or_len (λ k. k == node) nodes ≤ i
first_no_later nodes node i is inside = elim (cases_lt i (position_or_len (λ k. k == node) nodes)) [
  | inl before ↦ absurd (true≢false (sym (eq-eqb (slice_index nodes i) node is) ∙ fails_before_first (λ k. k == node) nodes i 0 before))
  | inr past ↦ past
]

-- the root of a group with a node of known voltage is that node
pub root_is_source : (p : Parts) (rows : Rows) (states : List SwitchState) (i : ℕ) → IsRowOrder p rows → EndWithin p.switches (length rows.nodes + 1) → tied_of p.switches rows states ≡ None → i < rows.fixed → i < length rows.nodes
    → root_of rows (labels_of p.switches rows states) (slice_index rows.nodes i) ≡ slice_index rows.nodes i
root_is_source p rows states i order within none early inside =
    let n = length rows.nodes in
    let node = slice_index rows.nodes i in
    let labels = labels_of p.switches rows states in
    let test : ℕ → Bool = λ k. slice_index labels k == slice_index labels node in
    let there : Contains (known_nodes rows) node = (suc i, omega (arith, length-take rows.fixed rows.nodes), get_or-take rows.fixed rows.nodes i node early ∙ sym (get_or_default rows.nodes i 0 node inside)) in
    let (root, first) = first_in test (known_nodes rows) node there (eq-eqb (slice_index labels node) (slice_index labels node) refl) in
    let long : length (alone n) ≡ n + 1 = length-range_with_len 0 (n + 1) in
    let ends : EndWithin p.switches (length (alone n)) = subst (EndWithin p.switches) (sym long) within in
    let known = known_within rows (rows_within p rows order) in
    let all : All (λ k. k < length (alone n)) (known_nodes rows) = subst (λ m. All (λ k. k < m) (known_nodes rows)) (sym long) known in
    let meets = none_meet p.switches (known_nodes rows) (alone n) (closed_switches states) ends all none root node first.there there (eqb-true (slice_index labels root) (slice_index labels node) first.passes) in
    let low : root < n + 1 = All-contains (λ k. k < n + 1) (known_nodes rows) root known first.there in
    ap (λ o. unwrap_or o 0) (first.found (reverse (drop rows.fixed rows.nodes))) ∙ sym (own_label n root low) ∙ meets ∙ own_label n node (omega (arith, rows_within p rows order i inside))

-- the row of the root of its own group, with a known voltage
pub by_source : (rows : Rows) (node : ℕ) (empty single : Bool) → node ≢ 0 → row_of rows node < rows.fixed → kind_by rows node node empty single ≡ OfSource
by_source rows node empty single apart before =
    let off : (node == 0) ≡ false = ne_eqb node 0 apart in
    let on : nat_lt (row_of rows node) rows.fixed ≡ true = lt-ltb (row_of rows node) rows.fixed before in
    let same : (node == node) ≡ true = eq-eqb node node refl in
    rw (off, on, same) refl

-- so its row has the source
pub source_row : (p : Parts) (rows : Rows) (states : List SwitchState) (i : ℕ) → IsRowOrder p rows → EndWithin p.switches (length rows.nodes + 1) → tied_of p.switches rows states ≡ None → i < rows.fixed → i < length rows.nodes
    → kind_of p rows (labels_of p.switches rows states) (slice_index rows.nodes i) ≡ OfSource
source_row p rows states i order within none early inside =
    let node = slice_index rows.nodes i in
    let labels = labels_of p.switches rows states in
    let low = (nodes_within rows.nodes (once_each p rows order) i inside).0 in
    let first = first_no_later rows.nodes node i refl inside in
    ap (λ root. kind_by rows node root (is_empty p rows labels (slice_index labels node)) (count_members rows.nodes labels (slice_index labels node) == 1)) (root_is_source p rows states i order within none early inside)
    ∙ by_source rows node (is_empty p rows labels (slice_index labels node)) (count_members rows.nodes labels (slice_index labels node) == 1) (λ e. omega (arith, low, e)) (omega (arith, first, early))

-- the row of a node is one of the rows
row_within : (rows : Rows) (p : Parts) (plan : Plan) (node : ℕ) → IsPlan p rows plan → 1 ≤ node → node ≤ length rows.nodes → row_of rows node < length rows.nodes
row_within rows p plan node plan_is low high =
    let (row, below, at) = node_there rows.nodes (once_each p rows plan_is.order) node low high in
    omega (arith, below, first_no_later rows.nodes node row at below)

tie_by : (n row : ℕ) (ground known own empty single : Bool) → (ground ≡ false → row < n)
    → TieIsThere n (if ground then Ground else if known then (if own then OfSource else Tie row) else if empty then Ground else if own then (if single then Kcl else Sum) else Tie row)
tie_by n row true known own empty single h = tt
tie_by n row false true true empty single h = tt
tie_by n row false true false empty single h = h refl
tie_by n row false false own true single h = tt
tie_by n row false false true false true h = tt
tie_by n row false false true false false h = tt
tie_by n row false false false false single h = h refl

tie_there : (p : Parts) (rows : Rows) (plan : Plan) (labels : List ℕ) (node : ℕ) → IsPlan p rows plan → node ≤ length rows.nodes → TieIsThere (length rows.nodes) (kind_of p rows labels node)
tie_there p rows plan labels node plan_is within =
    let root = root_of rows labels node in
    let high = root_within rows labels (by_rank rows) (rank_is p rows plan_is.order) node within in
    tie_by (length rows.nodes) (row_of rows root) (root == 0) (nat_lt (row_of rows root) rows.fixed) (node == root) (is_empty p rows labels (slice_index labels node)) (count_members rows.nodes labels (slice_index labels node) == 1)
    (λ off. row_within rows p plan root plan_is (positive root off) high)
  where
    positive : (k : ℕ) → (k == 0) ≡ false → 1 ≤ k
    positive k off = elim (cases_eq k 0) [
      | inl e ↦ absurd (true≢false (sym (eq-eqb k 0 e) ∙ off))
      | inr ne ↦ omega (arith, ne)
    ]

pub kinds_are : (p : Parts) (rows : Rows) (plan : Plan) (states : List SwitchState) (kinds : List RowKind) → IsPlan p rows plan → tied_of p.switches rows states ≡ None → rows.fixed ≤ length p.nodes → kinds ≡ kinds_of p rows states
    → AreKinds (length p.nodes) rows.fixed kinds
kinds_are p rows plan states kinds plan_is none few are =
    let labels = labels_of p.switches rows states in
    let n = length rows.nodes in
    subst (AreKinds (length p.nodes) rows.fixed) (sym are)
    (record {
      count = length-map rows.nodes (kind_of p rows labels) ∙ plan_is.same_nodes;
      sources = λ i early.
          let inside : i < n = omega (arith, early, few, plan_is.same_nodes) in
          get_or-map (kind_of p rows labels) rows.nodes i 0 Ground inside ∙ source_row p rows states i plan_is.order plan_is.ends_within none early inside;
      ties = subst (λ m. All (TieIsThere m) (map (kind_of p rows labels) rows.nodes)) plan_is.same_nodes
          (All-map (TieIsThere n) (kind_of p rows labels) rows.nodes (λ k d inside. tie_there p rows plan labels (slice_index_or rows.nodes k d) plan_is (within rows p plan k d plan_is inside)));
    })
  where
    within : (rows : Rows) (p : Parts) (plan : Plan) (k d : ℕ) → IsPlan p rows plan → k < length rows.nodes → slice_index_or rows.nodes k d ≤ length rows.nodes
    within rows p plan k d plan_is inside = subst (λ x. x ≤ length rows.nodes) (sym (get_or_default rows.nodes k d 0 inside)) (plan_is.nodes_within k inside)

-- a tied switch is one of the case
tied_among : (switches : List Switch) (known labels es : List ℕ) (s n : ℕ) → All (λ k. k < n) es → first_tied switches known labels es ≡ Some s → s < n
tied_among switches known labels [] s n all is = absurd (none_some s is)
  where
    none_some : (s : ℕ) → None ≡ Some s → ⊥
    none_some s h = cc
tied_among switches known labels (x ∷ es) s n all is = elim (cases_Bool (ties switches known labels x)) [
  | inl on ↦ subst (λ k. k < n) (some_same x s (sym (cond-true (ties switches known labels x) (Some x) (first_tied switches known (join switches labels x) es) on) ∙ is)) (all 0 x (omega arith))
  | inr off ↦ tied_among switches known (join switches labels x) es s n (λ k d below. all (suc k) d (omega (arith, below))) (sym (cond-false (ties switches known labels x) (Some x) (first_tied switches known (join switches labels x) es) off) ∙ is)
]
  where
    some_same : (x s : ℕ) → Some x ≡ Some s → x ≡ s
    some_same x s e = cc

pub tied_there : (p : Parts) (rows : Rows) (states : List SwitchState) (s : ℕ) → length states ≡ length p.switches → tied_of p.switches rows states ≡ Some s → s < length p.switches
tied_there p rows states s size is =
    tied_among p.switches (known_nodes rows) (alone (length rows.nodes)) (closed_switches states) s (length p.switches)
    (All-filter (is_closed_at states) (λ k. k < length p.switches) (range_with_len 0 (length states)) (λ i d below.
    let inside : i < length states = omega (arith, below, length-range_with_len 0 (length states)) in
    omega (arith, get_or-range_with_len 0 (length states) i d inside, inside, size)))
    is
