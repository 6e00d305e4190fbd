-- The tables of the plan, made row by row.
use Rattle.std.proofs.Common.{◌≡◌, ℕ, ◌+◌, ◌<◌, ◌≤◌, ◌==◌, ◌||◌, Bool, true, false, List, [], ◌∷◌, ◌++◌, drop, length, map, slice_index, slice_set, take, min, ap, sym, ◌∙◌, ⊎_elim, subst, inl, inr, arith}
use Rattle.std.specs.List.{list_any, range_with_len}
use Rattle.std.proofs.lemmas.Bool.{cases_eq, cases_lt, eq-eqb, ne_eqb, or_left, or_right}
use Rattle.std.proofs.Math.Bool.{or-false}
use Rattle.std.proofs.lemmas.List.{get_or_past, get_or-set_other, get_or-set_same, take_more, drop_min, take_min}
use Rattle.std.proofs.lemmas.List.Folds.{list_any-append}
use Rattle.std.proofs.lemmas.List.FromFn.{get_or-range_with_len, length-range_with_len, map-range_with_len_more}
use Rattle.std.proofs.lemmas.List.Sorted.{length_permutation}
use Rattle.std.specs.List.Sorted.{IsPermutation}
use Rattle.emtp_case.proofs.RowTables.{nodes_within}
use Rattle.emtp_case.specs.held.Case.{IsCase}
use Rattle.emtp_case.specs.RowOrder.{Rows}
use Rattle.emtp_case.specs.held.RowOrder.{IsRowOrder}
use Rattle.emtp_case.specs.declared.case.Parts.{Parts}
use Rattle.emtp_case.specs.declared.switch.Switch.{Switch}
use Rattle.emtp_switch.specs.Groups.{alone, by_rank, from_at, known_nodes, knows, no_switch, switch_at, to_at}
use Rattle.emtp_switch.specs.held.Groups.{EndWithin}
use Rattle.emtp_switch.specs.held.Plan.{IsPlan, MarksKnown}
use Rattle.emtp_switch.specs.held.Tallies.{ends_of}
use Rattle.emtp_switch.specs.held.Tree.{is_reached}
use Rattle.emtp_switch.specs.declared.kinds.Ends.{Ends}
use Rattle.emtp_switch.specs.declared.plan.Plan.{Plan}

pub ends_more : (p : Parts) (n : ℕ) (old new : List Ends) (e : Ends) → old ≡ map (ends_of p) (range_with_len 0 n) → e ≡ ends_of p n → new ≡ old ++ e ∷ [] → new ≡ map (ends_of p) (range_with_len 0 (n + 1))
ends_more p n old new e are is pushed =
    let more = map-range_with_len_more (ends_of p) 0 n n (omega arith) in
    pushed ∙ ap (λ xs. xs ++ e ∷ []) are ∙ ap (λ x. map (ends_of p) (range_with_len 0 n) ++ x ∷ []) is ∙ sym more

-- the number of rows of sources, where it is not above that of all rows
pub take_least : (nodes : List ℕ) (fixed least : ℕ) → least ≡ min fixed (length nodes) → take least nodes ≡ take fixed nodes
take_least nodes fixed least is = ap (λ k. take k nodes) is ∙ take_min fixed nodes

pub drop_least : (nodes : List ℕ) (fixed least : ℕ) → least ≡ min fixed (length nodes) → drop least nodes ≡ drop fixed nodes
drop_least nodes fixed least is = ap (λ k. drop k nodes) is ∙ drop_min fixed nodes

-- where each node is alone, its label is its own number
pub own_label : (n x : ℕ) → x < n + 1 → slice_index (alone n) x ≡ x
own_label n x inside = omega (arith, get_or-range_with_len 0 (n + 1) x 0 inside)

-- one node more is known
pub known_more : (nodes : List ℕ) (n row node : ℕ) (known : List Bool) → length known ≡ n + 1 → row < length nodes → slice_index nodes row ≡ node → node ≤ n
    → ((x : ℕ) → x ≤ n → is_reached known x ≡ knows (0 ∷ take row nodes) (alone n) x)
    → (x : ℕ) → x ≤ n → is_reached (slice_set known node true) x ≡ knows (0 ∷ take (row + 1) nodes) (alone n) x
known_more nodes n row node known size inside is there are x within =
    let f : ℕ → Bool = λ k. slice_index (alone n) k == x in
    let grown : knows (0 ∷ take (row + 1) nodes) (alone n) x ≡ (knows (0 ∷ take row nodes) (alone n) x || (node == x || false))
    = ap (λ l. list_any f (0 ∷ l)) (take_more nodes row 0 inside) ∙ list_any-append f (0 ∷ take row nodes) (slice_index nodes row ∷ []) ∙ ap (λ k. knows (0 ∷ take row nodes) (alone n) x || (slice_index (alone n) k == x || false)) is
    ∙ ap (λ k. knows (0 ∷ take row nodes) (alone n) x || (k == x || false)) (own_label n node (omega arith)) in
    elim (cases_eq x node) [
      | inl here ↦
          ap (is_reached (slice_set known node true)) here ∙ get_or-set_same known node true false (omega (arith, size))
          ∙ sym (grown ∙ or_right (knows (0 ∷ take row nodes) (alone n) x) (node == x || false) (or_left (node == x) false (eq-eqb node x (sym here))))
      | inr ne ↦
          get_or-set_other known node x true false ne ∙ are x within
          ∙ sym (grown ∙ ap (λ b. knows (0 ∷ take row nodes) (alone n) x || (b || false)) (ne_eqb node x (λ e. ne (sym e))) ∙ or-false (knows (0 ∷ take row nodes) (alone n) x))
    ]

pub known_are : (rows : Rows) (n least : ℕ) (known : List Bool) → n ≡ length rows.nodes → least ≡ min rows.fixed n → ((x : ℕ) → x ≤ n → is_reached known x ≡ knows (0 ∷ take least rows.nodes) (alone n) x)
    → MarksKnown (known_nodes rows) (alone n) known
known_are rows n least known size least_is are = λ x below.
    let long : length (alone n) ≡ n + 1 = length-range_with_len 0 (n + 1) in
    let own : slice_index (alone n) x ≡ x = own_label n x (omega (arith, long)) in
    ap (is_reached known) own ∙ are x (omega (arith, long)) ∙ ap (λ l. knows (0 ∷ l) (alone n) x) (take_least rows.nodes rows.fixed least (least_is ∙ ap (min rows.fixed) size)) ∙ ap (knows (known_nodes rows) (alone n)) (sym own)

-- the ends of all switches of a case
pub switch_ends : (p : Parts) → IsCase p → EndWithin p.switches (length p.nodes + 1)
switch_ends p fits = record { from_there = λ s. (both s).0; to_there = λ s. (both s).1 }
  where
    both : (s : ℕ) → (from_at p.switches s < length p.nodes + 1) × (to_at p.switches s < length p.nodes + 1)
    both s = ⊎_elim
        (λ (inside : s < length p.switches). let is = fits.draft.network.switches s no_switch inside in (omega (arith, is.ends.from_there), omega (arith, is.ends.to_there)))
        (λ (past : length p.switches ≤ s).
        let none : switch_at p.switches s ≡ no_switch = get_or_past p.switches s no_switch past in
        subst (λ (x : Switch). (x.from < length p.nodes + 1) × (x.to < length p.nodes + 1)) (sym none) (omega arith, omega arith))
        (cases_lt s (length p.switches))

pub same_count : (p : Parts) (rows : Rows) → IsRowOrder p rows → length rows.nodes ≡ length p.nodes
same_count p rows is = length_permutation (range_with_len 1 (length p.nodes)) rows.nodes is.each_once ∙ length-range_with_len 1 (length p.nodes)

-- the list of a row order in terms of its own length
pub once_each : (p : Parts) (rows : Rows) → IsRowOrder p rows → IsPermutation (range_with_len 1 (length rows.nodes)) rows.nodes
once_each p rows is = subst (λ n. IsPermutation (range_with_len 1 n) rows.nodes) (sym (same_count p rows is)) is.each_once

pub planned : (p : Parts) (rows : Rows) (plan : Plan) (n : ℕ) → IsCase p → IsRowOrder p rows → n ≡ length p.nodes → plan.ranked.items ≡ by_rank rows → length plan.known.items ≡ n + 1 → MarksKnown (known_nodes rows) (alone n) plan.known.items
    → plan.ends.items ≡ map (ends_of p) (range_with_len 0 (n + 1)) → IsPlan p rows plan
planned p rows plan n fits is size ranked known_size known ends =
    let same = same_count p rows is in
    let rows_size : n ≡ length rows.nodes = size ∙ sym same in
    record {
      order = is;
      same_nodes = same;
      nodes_within = λ row inside. (nodes_within rows.nodes (once_each p rows is) row inside).1;
      ends_within = subst (λ k. EndWithin p.switches (k + 1)) (sym same) (switch_ends p fits);
      ranked = ranked;
      known = subst (λ k. MarksKnown (known_nodes rows) (alone k) plan.known.items) rows_size known;
      known_size = omega (arith, known_size, rows_size);
      ends = subst (λ k. plan.ends.items ≡ map (ends_of p) (range_with_len 0 (k + 1))) rows_size ends;
    }
