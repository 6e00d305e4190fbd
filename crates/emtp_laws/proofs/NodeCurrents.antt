-- Kirchhoff's current law at each node of unknown voltage.
use Rattle.std.proofs.Common.{◌≡◌, ◌≢◌, ◌∙◌, ◌+◌, ◌<◌, ◌≤◌, ◌==◌, ◌&&◌, ◌||◌, not, ℕ, ℤ, pos, ◌+ℤ◌, unsigned_abs, if◌then◌else◌, nat_lt, Bool, true, false, List, [], ◌∷◌, length, slice_get, slice_index, Some, Ok, refl, ap, sym, subst, inl, inr, arith}
use Rattle.std.specs.List.{count_by, list_any}
use Rattle.std.proofs.lemmas.Bool.{cases_eq, cases_lt, eq-eqb, eqb-true, ne_eqb, or_left, true≢false}
use Rattle.std.proofs.lemmas.Int.{ints}
use Rattle.std.proofs.lemmas.List.Folds.{list_any_at}
use Rattle.std.proofs.lemmas.List.FromFn.{get_or-map-range_with_len, length-map-range_with_len}
use Rattle.std.proofs.lemmas.Option.{slice_get_cases}
use Rattle.emtp_case.proofs.NodeOrder.{length-order_of, order_of-IsRowOrder}
use Rattle.emtp_case.proofs.RowTables.{node_there}
use Rattle.emtp_case.proofs.RowsOfNodes.{fixed_within, row_at_is, row_named, rows_apart}
use Rattle.emtp_case.proofs.Sums.{sum_below_same}
use Rattle.emtp_case.specs.Branch.{from_of, to_of}
use Rattle.emtp_case.specs.held.Case.{IsCase}
use Rattle.emtp_case.specs.RowOrder.{has_source, order_of, touches_switch}
use Rattle.emtp_case.specs.StepRecord.{BranchState, StepRecord}
use Rattle.emtp_case.specs.Sums.{sum_below, total}
use Rattle.emtp_case.specs.declared.branch.Branch.{Branch}
use Rattle.emtp_case.specs.declared.case.Parts.{Parts}
use Rattle.emtp_case.specs.declared.row_kind.RowKind.{RowKind}
use Rattle.emtp_case.specs.declared.row_kind.RowKind.TheVariants.{Kcl, Sum, Tie, Ground, Source as SourceRow}
use Rattle.emtp_case.specs.declared.source.Source.{Source}
use Rattle.emtp_elim.specs.Matrix.{item}
use Rattle.emtp_machine.proofs.Chains.{chain}
use Rattle.emtp_machine.specs.Laws.{records_upto}
use Rattle.emtp_machine.specs.held.Laws.{IsChain}
use Rattle.emtp_machine.specs.Next.{next}
use Rattle.emtp_net.proofs.Runs.{residual_small}
use Rattle.emtp_net.specs.Part.{NetworkPart, brought_by, leaving, leaving_rows}
use Rattle.emtp_net.specs.held.Part.{network_of}
use Rattle.emtp_net.specs.Residual.{residual_by}
use Rattle.emtp_net.specs.Step.{network_part}
use Rattle.emtp_net.specs.System.{at_node, branch_sum, kinds_of, source_value}
use Rattle.emtp_rows.specs.Nodal.{group_sum, is_member, is_tie_to, kind_at, node_at}
use Rattle.emtp_rows.specs.held.Touched.{row_at}
use Rattle.emtp_switch.proofs.Balancing.{AreBalanced, currents_balance}
use Rattle.emtp_switch.proofs.Flows.{sum_below-none, sum_below-one}
use Rattle.emtp_switch.proofs.GroupRoots.{root_within}
use Rattle.emtp_switch.proofs.Plans.{once_each, switch_ends}
use Rattle.emtp_switch.proofs.Regrouping.{rank_is}
use Rattle.emtp_switch.proofs.RootPlaces.{root_passes}
use Rattle.emtp_switch.proofs.Sides.{root_same}
use Rattle.emtp_switch.specs.Currents.{leaving_side}
use Rattle.emtp_switch.specs.held.Currents.{through_switches}
use Rattle.emtp_switch.specs.Groups.{by_rank}
use Rattle.emtp_switch.specs.held.Groups.{EndWithin}
use Rattle.emtp_switch.specs.Kinds.{count_members, has_feed, has_member, is_branch_at, is_current_source_at, is_empty, kind_by}
use Rattle.emtp_switch.specs.States.{next_state, next_states}
use Rattle.emtp_laws.specs.Nodes.{HasUnknownVoltage, HoldsCurrentLaw, KeepsCurrentLaw, labels_next, leaving_node, root_next}
use Rattle.emtp_laws.proofs.Counting.{passes_twice}
use Rattle.emtp_laws.proofs.GroupVoltages.{empty_next, kind_is, single_next}
use Rattle.emtp_laws.proofs.SolvedSteps.{next_made, step_solved}

-- ---- at nodes where nothing ends

off : (b : Bool) → (b ≡ true → ⊥) → b ≡ false
off true none = absurd (none refl)
off false none = refl

none_left : (a b : Bool) → a || b ≡ false → (a ≡ false) × (b ≡ false)
none_left false false e = (refl, refl)
none_left false true e = absurd (cc)
none_left true b e = absurd (cc)

quiet_branch : (n : ℕ) (x : Branch) (ends : ℤ × ℤ) → is_branch_at n x ≡ false → at_node n (Some x) ends ≡ pos 0
quiet_branch n x ends e =
    let both = none_left (from_of x == n) (to_of x == n) e in
    ap (λ (b : Bool). (if b then ends.0 else pos 0) +ℤ (if to_of x == n then ends.1 else pos 0)) both.0
    ∙ ap (λ (b : Bool). pos 0 +ℤ (if b then ends.1 else pos 0)) both.1

no_branches : (case : Parts) (f : ℕ → ℤ × ℤ) (n : ℕ) → list_any (is_branch_at n) case.branches ≡ false → branch_sum case f n ≡ pos 0
no_branches case f n none =
    sum_below-none (length case.branches) (λ b. at_node n (slice_get case.branches b) (f b)) (λ b below. elim ((slice_get_cases case.branches b).1) [
      | inl is ↦ ap (λ o. at_node n o (f b)) is.2 ∙ quiet_branch n is.0 (f b) (off (is_branch_at n is.0) (λ on. true≢false (sym (list_any_at (is_branch_at n) case.branches b is.0 below (ap (is_branch_at n) is.3 ∙ on)) ∙ none)))
      | inr past ↦ absurd (omega (arith, below, past.0))
    ])

no_source : (case : Parts) (H : List StepRecord) (n : ℕ) (ss : List Source) → list_any (is_current_source_at n) ss ≡ false → total (λ (s : Source). if s.current && (s.node == n) then source_value case H s else pos 0) ss ≡ pos 0
no_source case H n [] none = refl
no_source case H n (s ∷ ss) none =
    let both = none_left (is_current_source_at n s) (list_any (is_current_source_at n) ss) none in
    let first : (if s.current && (s.node == n) then source_value case H s else pos 0) ≡ pos 0 = ap (λ (b : Bool). if b then source_value case H s else pos 0) both.0 in
    omega (arith, ints, first, no_source case H n ss both.1)

no_feed : (case : Parts) (H : List StepRecord) (branches : List BranchState) (n : ℕ) → has_feed case n ≡ false → leaving case H branches n ≡ pos 0
no_feed case H branches n none =
    let both = none_left (list_any (is_branch_at n) case.branches) (list_any (is_current_source_at n) case.sources) none in
    omega (arith, ints, no_branches case (λ b. brought_by (slice_get branches b)) n both.0, no_source case H n case.sources both.1)

-- ---- the members of a group

-- what a row of another group says isn't a tie to row i
not_tied : (ground known own empty single : Bool) (r i : ℕ) → (ground ≡ false → (r == i) ≡ false)
    → is_tie_to i (if ground then Ground else if known then (if own then SourceRow else Tie r) else if empty then Ground else if own then (if single then Kcl else Sum) else Tie r) ≡ false
not_tied true known own empty single r i apart = refl
not_tied false true true empty single r i apart = refl
not_tied false true false empty single r i apart = apart refl
not_tied false false own true single r i apart = refl
not_tied false false true false true r i apart = refl
not_tied false false true false false r i apart = refl
not_tied false false false false single r i apart = apart refl

-- and what one of the same group says is
tied : (ground known empty own : Bool) (single : Bool) (r i : ℕ) → ground ≡ false → known ≡ false → empty ≡ false → own ≡ false → r ≡ i
    → is_tie_to i (if ground then Ground else if known then (if own then SourceRow else Tie r) else if empty then Ground else if own then (if single then Kcl else Sum) else Tie r) ≡ true
tied false false false false single r i a b c d e = eq-eqb r i e
tied true known empty own single r i a b c d e = absurd (true≢false a)
tied false true empty own single r i a b c d e = absurd (true≢false b)
tied false false true own single r i a b c d e = absurd (true≢false c)
tied false false false true single r i a b c d e = absurd (true≢false d)

-- the node of row i is the root of its group, which holds no known voltage and isn't empty
record IsFreeRoot (case : Parts) (H : List StepRecord) (i : ℕ) : Type 0 where
  inside : i < length case.nodes
  own : root_next case H (node_at case i) ≡ node_at case i
  free : nat_lt i (order_of case).fixed ≡ false
  filled : empty_next case H (node_at case i) ≡ false

root_row : (case : Parts) (H : List StepRecord) (k : ℕ) → k < length case.nodes → root_next case H (node_at case k) ≢ 0 → (r : ℕ) × (r < length case.nodes) × (node_at case r ≡ root_next case H (node_at case k))
root_row case H k inside some =
    let rows = order_of case in
    let n = length-order_of case in
    let order = order_of-IsRowOrder case in
    let root = root_next case H (node_at case k) in
    let high = root_within rows (labels_next case H) (by_rank rows) (rank_is case rows order) (node_at case k) (omega (arith, (row_named case k inside).high, n)) in
    let (r, below, at) = node_there rows.nodes (once_each case rows order) root (omega (arith, some)) high in
    (r, omega (arith, below, n), at)

members : (case : Parts) (H : List StepRecord) (i k : ℕ) → IsFreeRoot case H i → k < length case.nodes → is_member (kinds_of case H) i k ≡ (slice_index (labels_next case H) (node_at case k) == slice_index (labels_next case H) (node_at case i))
members case H i k is inside =
    let rows = order_of case in
    let labels = labels_next case H in
    let size = length-order_of case in
    let n = node_at case i in
    let m = node_at case k in
    let root = root_next case H m in
    let kind = kind_is case H k inside in
    elim (cases_eq k i) [
      | inl here ↦
          or_left (k == i) (is_tie_to i (kind_at (kinds_of case H) k)) (eq-eqb k i here)
          ∙ sym (eq-eqb (slice_index labels m) (slice_index labels n) (ap (λ (j : ℕ). slice_index labels (node_at case j)) here))
      | inr ne ↦
          ap (λ (b : Bool). b || is_tie_to i (kind_at (kinds_of case H) k)) (ne_eqb k i ne)
          ∙ ap (is_tie_to i) kind
          ∙ (elim (cases_eq (slice_index labels m) (slice_index labels n)) [
            | inl same ↦
                let root_is : root ≡ n = root_same rows labels m n same ∙ is.own in
                let at : row_at case root ≡ i = row_at_is case root i is.inside (sym root_is) in
                let low = (row_named case i is.inside).low in
                tied (root == 0) (nat_lt (row_at case root) rows.fixed) (empty_next case H m) (m == root) (single_next case H m) (row_at case root) i
                (ne_eqb root 0 (λ e. omega (arith, e, root_is, low)))
                (ap (λ (r : ℕ). nat_lt r rows.fixed) at ∙ is.free)
                (ap (λ (l : ℕ). is_empty case rows labels l) same ∙ is.filled)
                (ne_eqb m root (λ e. rows_apart case k i inside is.inside ne (e ∙ root_is)))
                at
                ∙ sym (eq-eqb (slice_index labels m) (slice_index labels n) same)
            | inr apart ↦
                not_tied (root == 0) (nat_lt (row_at case root) rows.fixed) (m == root) (empty_next case H m) (single_next case H m) (row_at case root) i
                (λ some. ne_eqb (row_at case root) i (λ e.
                let (r, below, there) = root_row case H k inside (λ none. true≢false (sym (eq-eqb root 0 none) ∙ some)) in
                let row : row_at case root ≡ r = row_at_is case root r below there in
                let same : r ≡ i = sym row ∙ e in
                apart (sym (root_passes rows labels k (omega (arith, fixed_within case, size)) (omega (arith, inside, size))) ∙ ap (slice_index labels) (sym there ∙ ap (node_at case) same))))
                ∙ sym (ne_eqb (slice_index labels m) (slice_index labels n) apart)
          ])
    ]

-- ---- what leaves a group

leaving_at : (case : Parts) (H : List StepRecord) (branches : List BranchState) (i : ℕ) → i < length case.nodes → item (leaving_rows case H branches) i ≡ leaving case H branches (node_at case i)
leaving_at case H branches i inside = get_or-map-range_with_len (λ j. leaving case H branches (node_at case j)) 0 (length case.nodes) i i (pos 0) inside (omega arith)

-- the sum over a group, by the kinds of its rows
side_is : (case : Parts) (H : List StepRecord) (branches : List BranchState) (i : ℕ) → IsFreeRoot case H i
    → leaving_side (order_of case) (labels_next case H) (slice_index (labels_next case H) (node_at case i)) (leaving_rows case H branches) ≡ group_sum case (kinds_of case H) i (leaving case H branches)
side_is case H branches i is =
    let labels = labels_next case H in
    let l = slice_index labels (node_at case i) in
    ap (λ (n : ℕ). sum_below n (λ row. if slice_index labels (node_at case row) == l then item (leaving_rows case H branches) row else pos 0)) (length-order_of case)
    ∙ sum_below_same (length case.nodes) (λ row. if slice_index labels (node_at case row) == l then item (leaving_rows case H branches) row else pos 0) (λ k. if is_member (kinds_of case H) i k then leaving case H branches (node_at case k) else pos 0)
    (λ k below.
    ap (λ (b : Bool). if b then item (leaving_rows case H branches) k else pos 0) (sym (members case H i k is below))
    ∙ ap (λ x. if is_member (kinds_of case H) i k then x else pos 0) (leaving_at case H branches k below))

-- a group of one node
single_sum : (case : Parts) (H : List StepRecord) (branches : List BranchState) (i : ℕ) → i < length case.nodes → single_next case H (node_at case i) ≡ true
    → leaving_side (order_of case) (labels_next case H) (slice_index (labels_next case H) (node_at case i)) (leaving_rows case H branches) ≡ leaving case H branches (node_at case i)
single_sum case H branches i inside single =
    let labels = labels_next case H in
    let nodes = (order_of case).nodes in
    let size = length-order_of case in
    let l = slice_index labels (node_at case i) in
    let p : ℕ → Bool = λ node. slice_index labels node == l in
    let f : ℕ → ℤ = λ k. pos 0 in
    let g : ℕ → ℤ = λ k. if p (node_at case k) then item (leaving_rows case H branches) k else pos 0 in
    let one : count_by p nodes ≡ 1 = eqb-true (count_members nodes labels l) 1 single in
    let here : p (node_at case i) ≡ true = eq-eqb l l refl in
    let own : g i ≡ item (leaving_rows case H branches) i = ap (λ (b : Bool). if b then item (leaving_rows case H branches) i else pos 0) here in
    let others : (k : ℕ) → k < length nodes → k ≢ i → g k ≡ f k = λ k below ne. ap (λ (b : Bool). if b then item (leaving_rows case H branches) k else pos 0) (off (p (node_at case k)) (λ on. elim (cases_lt k i) [
      | inl before ↦ absurd (omega (arith, one, passes_twice p nodes k i before (omega (arith, inside, size)) on here))
      | inr past ↦ absurd (omega (arith, one, passes_twice p nodes i k (omega (arith, ne, past)) below here on))
    ])) in
    let none : sum_below (length nodes) f ≡ pos 0 = sum_below-none (length nodes) f (λ k below. refl) in
    let all : sum_below (length nodes) g ≡ sum_below (length nodes) f +ℤ item (leaving_rows case H branches) i = sum_below-one (length nodes) i f g (item (leaving_rows case H branches) i) (omega (arith, inside, size)) (omega (arith, ints, own)) others in
    omega (arith, ints, all, none, leaving_at case H branches i inside)

-- a group at which nothing ends
empty_sum : (case : Parts) (H : List StepRecord) (branches : List BranchState) (l : ℕ) → is_empty case (order_of case) (labels_next case H) l ≡ true → leaving_side (order_of case) (labels_next case H) l (leaving_rows case H branches) ≡ pos 0
empty_sum case H branches l empty =
    let labels = labels_next case H in
    let nodes = (order_of case).nodes in
    let none = no_feeds (has_member nodes labels (touches_switch case) l) (has_member nodes labels (has_feed case) l) empty in
    sum_below-none (length nodes) (λ row. if slice_index labels (slice_index nodes row) == l then item (leaving_rows case H branches) row else pos 0) (λ row below.
    by_test (slice_index labels (slice_index nodes row) == l) (item (leaving_rows case H branches) row) (λ on.
    leaving_at case H branches row (omega (arith, below, length-order_of case))
    ∙ no_feed case H branches (node_at case row) (off (has_feed case (node_at case row)) (λ feed.
    true≢false (sym (list_any_at (λ node. slice_index labels node == l && has_feed case node) nodes row 0 below (both_on (slice_index labels (slice_index nodes row) == l) (has_feed case (slice_index nodes row)) on feed)) ∙ none)))))
  where
    no_feeds : (a b : Bool) → a && not b ≡ true → b ≡ false
    no_feeds true true e = absurd (cc)
    no_feeds true false e = refl
    no_feeds false b e = absurd (cc)

    both_on : (a b : Bool) → a ≡ true → b ≡ true → a && b ≡ true
    both_on true true e h = refl
    both_on true false e h = absurd (cc)
    both_on false b e h = absurd (cc)

    by_test : (b : Bool) (x : ℤ) → (b ≡ true → x ≡ pos 0) → (if b then x else pos 0) ≡ pos 0
    by_test true x h = h refl
    by_test false x h = refl

-- ---- the residual of a root

-- the kind of the row of a root without a known voltage
free_kind : (case : Parts) (H : List StepRecord) (i : ℕ) (empty single : Bool) → i < length case.nodes → root_next case H (node_at case i) ≡ node_at case i → nat_lt i (order_of case).fixed ≡ false
    → empty_next case H (node_at case i) ≡ empty → single_next case H (node_at case i) ≡ single → kind_at (kinds_of case H) i ≡ (if empty then Ground else if single then Kcl else Sum)
free_kind case H i empty single inside own free is_empty_is single_is =
    let rows = order_of case in
    let m = node_at case i in
    kind_is case H i inside
    ∙ ap (λ (r : ℕ). kind_by rows m r (empty_next case H m) (single_next case H m)) own
    ∙ ap (λ (b : Bool). kind_by rows m m b (single_next case H m)) is_empty_is
    ∙ ap (λ (b : Bool). kind_by rows m m empty b) single_is
    ∙ by_tests (m == 0) (nat_lt (row_at case m) rows.fixed) (m == m) empty single (row_at case m) (ne_eqb m 0 (λ e. omega (arith, e, (row_named case i inside).low)))
    (ap (λ (r : ℕ). nat_lt r rows.fixed) (row_at_is case m i inside refl) ∙ free) (eq-eqb m m refl)
  where
    by_tests : (ground known mine empty single : Bool) (r : ℕ) → ground ≡ false → known ≡ false → mine ≡ true
        → (if ground then Ground else if known then (if mine then SourceRow else Tie r) else if empty then Ground else if mine then (if single then Kcl else Sum) else Tie r) ≡ (if empty then Ground else if single then Kcl else Sum)
    by_tests true known mine empty single r a b c = absurd (true≢false a)
    by_tests false true mine empty single r a b c = absurd (true≢false b)
    by_tests false false false empty single r a b c = absurd (true≢false (sym c))
    by_tests false false true empty single r a b c = refl

group_small : (case : Parts) (H : List StepRecord) (part : NetworkPart) (i : ℕ) (empty single : Bool) → network_part case H ≡ Ok part → i < length case.nodes → root_next case H (node_at case i) ≡ node_at case i → nat_lt i (order_of case).fixed ≡ false
    → empty_next case H (node_at case i) ≡ empty → single_next case H (node_at case i) ≡ single
    → unsigned_abs (leaving_side (order_of case) (labels_next case H) (slice_index (labels_next case H) (node_at case i)) (leaving_rows case H part.branches)) ≤ unsigned_abs case.run.tolerance
group_small case H part i true single made inside own free empty_is single_is =
    let none = empty_sum case H part.branches (slice_index (labels_next case H) (node_at case i)) empty_is in
    subst (λ x. unsigned_abs x ≤ unsigned_abs case.run.tolerance) (sym none) (omega (arith, ints))
group_small case H part i false true made inside own free empty_is single_is =
    let kind = free_kind case H i false true inside own free empty_is single_is in
    let fine = residual_small case H part made i inside in
    let here : unsigned_abs (leaving case H part.branches (node_at case i)) ≤ unsigned_abs case.run.tolerance = subst (λ (k : RowKind). residual_by case H part.branches i k ≤ unsigned_abs case.run.tolerance) kind fine in
    subst (λ x. unsigned_abs x ≤ unsigned_abs case.run.tolerance) (sym (single_sum case H part.branches i inside single_is)) here
group_small case H part i false false made inside own free empty_is single_is =
    let kind = free_kind case H i false false inside own free empty_is single_is in
    let fine = residual_small case H part made i inside in
    let here : unsigned_abs (group_sum case (kinds_of case H) i (leaving case H part.branches)) ≤ unsigned_abs case.run.tolerance = subst (λ (k : RowKind). residual_by case H part.branches i k ≤ unsigned_abs case.run.tolerance) kind fine in
    subst (λ x. unsigned_abs x ≤ unsigned_abs case.run.tolerance) (sym (side_is case H part.branches i (record { inside = inside; own = own; free = free; filled = empty_is }))) here

-- ---- the law

balanced_nodes : (case : Parts) (H : List StepRecord) (part : NetworkPart) → IsCase case → network_part case H ≡ Ok part → AreBalanced case (order_of case) (next_states case H) (leaving_rows case H part.branches) part.switch_currents
balanced_nodes case H part fits made =
    let size = length-order_of case in
    subst (AreBalanced case (order_of case) (next_states case H) (leaving_rows case H part.branches)) (sym (step_solved case H part made).currents)
    (currents_balance case (order_of case) (next_states case H) (leaving_rows case H part.branches) (order_of-IsRowOrder case) (subst (λ n. EndWithin case.switches (n + 1)) (sym size) (switch_ends case fits))
    (length-map-range_with_len (next_state case H) 0 (length case.switches)) (size ∙ sym (length-map-range_with_len (λ i. leaving case H part.branches (node_at case i)) 0 (length case.nodes))))

row_there : (case : Parts) (n : ℕ) → 1 ≤ n → n ≤ length case.nodes → (i : ℕ) × (i < length case.nodes) × (node_at case i ≡ n)
row_there case n low high =
    let size = length-order_of case in
    let (i, below, at) = node_there (order_of case).nodes (once_each case (order_of case) (order_of-IsRowOrder case)) n low (omega (arith, high, size)) in
    (i, omega (arith, below, size), at)

exact_at : (case : Parts) (H : List StepRecord) (part : NetworkPart) (i : ℕ) → IsCase case → network_part case H ≡ Ok part → i < length case.nodes → node_at case i ≢ root_next case H (node_at case i) → leaving_node case H part (node_at case i) ≡ pos 0
exact_at case H part i fits made inside other =
    ap (λ x. x +ℤ through_switches case.switches part.switch_currents (node_at case i)) (sym (leaving_at case H part.branches i inside))
    ∙ (balanced_nodes case H part fits made).nodes i (omega (arith, inside, length-order_of case)) other

root_at : (case : Parts) (H : List StepRecord) (part : NetworkPart) (i : ℕ) → IsCase case → network_part case H ≡ Ok part → i < length case.nodes → node_at case i ≡ root_next case H (node_at case i) → HasUnknownVoltage case H (node_at case i)
    → unsigned_abs (leaving_node case H part (node_at case i)) ≤ unsigned_abs case.run.tolerance
root_at case H part i fits made inside own unknown =
    let size = length-order_of case in
    let m = node_at case i in
    let takes = ap (λ x. x +ℤ through_switches case.switches part.switch_currents m) (sym (leaving_at case H part.branches i inside)) ∙ (balanced_nodes case H part fits made).roots i (omega (arith, inside, size)) own in
    let bounds = row_named case i inside in
    let source : has_source case m ≡ false = off (has_source case m) (λ on. unknown.off_sources m bounds.low bounds.high on refl) in
    let free : nat_lt i (order_of case).fixed ≡ false = sym ((order_of-IsRowOrder case).sources_first i (omega (arith, inside, size))) ∙ source in
    subst (λ x. unsigned_abs x ≤ unsigned_abs case.run.tolerance) (sym takes) (group_small case H part i (empty_next case H m) (single_next case H m) made inside (sym own) free refl refl)

pub current_law : (case : Parts) (H : List StepRecord) (part : NetworkPart) → IsCase case → network_part case H ≡ Ok part → HoldsCurrentLaw case H part
current_law case H part fits made = record {
  within = λ n low high unknown.
      let (i, inside, at) = row_there case n low high in
      subst (λ m. unsigned_abs (leaving_node case H part m) ≤ unsigned_abs case.run.tolerance) at
      (elim (cases_eq (node_at case i) (root_next case H (node_at case i))) [
        | inl own ↦ root_at case H part i fits made inside own (subst (HasUnknownVoltage case H) (sym at) unknown)
        | inr other ↦ subst (λ x. unsigned_abs x ≤ unsigned_abs case.run.tolerance) (sym (exact_at case H part i fits made inside other)) (omega (arith, ints))
      ]);
  exact = λ n low high other.
      let (i, inside, at) = row_there case n low high in
      subst (λ m. leaving_node case H part m ≡ pos 0) at (exact_at case H part i fits made inside (λ e. other (sym at ∙ e ∙ ap (root_next case H) at)));
}

-- ---- the records of a run

next_law : (case : Parts) (H : List StepRecord) (r : StepRecord) → IsCase case → next case H ≡ Ok r → HoldsCurrentLaw case H (network_of r)
next_law case H r fits is =
    let from = next_made case H r is in
    subst (HoldsCurrentLaw case H) (sym from.is) (current_law case H from.part fits from.made)

chain_law : (case : Parts) (H : List StepRecord) → IsCase case → IsChain case H → KeepsCurrentLaw case H
chain_law case [] fits is = tt
chain_law case (r ∷ []) fits is = tt
chain_law case (r ∷ s ∷ past) fits is = next_law case (s ∷ past) r fits is.0

pub run_law : (case : Parts) (n : ℕ) → IsCase case → KeepsCurrentLaw case (records_upto case n)
run_law case n fits = chain_law case (records_upto case n) fits (chain case n)
