-- A root takes what leaves its group as a whole.
use Rattle.std.proofs.Common.{◌≡◌, ◌≢◌, ◌∙◌, ◌++◌, ◌<◌, ◌==◌, ℕ, suc, ℤ, pos, ◌+ℤ◌, Bool, true, false, if◌then◌else◌, List, [], ◌∷◌, length, slice_index, refl, ap, sym, inl, inr, arith}
use Rattle.std.proofs.lemmas.Bool.{both_ways, cases_Bool, cases_lt, cond-false, cond-true, eq-eqb, eqb-true, ne_eqb}
use Rattle.std.proofs.lemmas.Int.{ints}
use Rattle.std.proofs.lemmas.List.{get_or_append_left, get_or_past, length_push}
use Rattle.emtp_case.proofs.RowTables.{nodes_within}
use Rattle.emtp_case.proofs.Sums.{sum_below_same}
use Rattle.emtp_case.specs.RowOrder.{Rows}
use Rattle.emtp_case.specs.held.RowOrder.{IsRowOrder}
use Rattle.emtp_case.specs.Sums.{sum_below}
use Rattle.emtp_case.specs.declared.case.Parts.{Parts}
use Rattle.emtp_case.specs.declared.switch.Switch.{Switch}
use Rattle.emtp_case.specs.declared.switch.SwitchState.{SwitchState}
use Rattle.emtp_fix.specs.Items.{item}
use Rattle.emtp_switch.specs.Currents.{contains, leaving_side}
use Rattle.emtp_switch.specs.held.Currents.{RootsBalance, leaving_by}
use Rattle.emtp_switch.specs.held.Grouping.{AreTree}
use Rattle.emtp_switch.specs.Groups.{alone, bridges_of, closed_switches, from_at, groups, labels_of, root_of, to_at}
use Rattle.emtp_switch.specs.held.Groups.{EndWithin}
use Rattle.emtp_switch.specs.held.Tree.{HasEnds, link_at, side_total}
use Rattle.emtp_switch.specs.declared.sweep.Link.{Link}
use Rattle.emtp_switch.proofs.Cuts.{each_among}
use Rattle.emtp_switch.proofs.Finding.{groups-bridges}
use Rattle.emtp_switch.proofs.Flows.{sum_below-none, sum_below-one, by_nothing}
use Rattle.emtp_switch.proofs.FoundCurrents.{contains_is, is_contained}
use Rattle.emtp_switch.proofs.GrownTree.{one_row}
use Rattle.emtp_switch.proofs.Kirchhoff.{ends_at, held_one, one_place}
use Rattle.emtp_switch.proofs.Labels.{OneLabel, groups-joins}
use Rattle.emtp_switch.proofs.Plans.{once_each}
use Rattle.emtp_switch.proofs.Sides.{among_from, root_of_ground, root_same}
use Rattle.emtp_switch.proofs.Growth.{over_if}

-- the places of a group
abbrev in_group : Rows → List ℕ → ℕ → ℕ → Bool
in_group rows labels l place = slice_index labels (slice_index rows.nodes place) == l

both_in : (b : Bool) (i : ℤ) → leaving_by b b i ≡ pos 0
both_in true i = omega (arith, ints)
both_in false i = refl

-- no switch carries a current out of a group
within_group : (switches : List Switch) (rows : Rows) (states : List SwitchState) (links : List Link) (flows : List ℤ) (l s : ℕ) → EndWithin switches (length (alone (length rows.nodes))) → AreTree switches rows states links
    → ((s : ℕ) → ((j : ℕ) → j < length links → (link_at links j).switch ≢ s) → item flows s ≡ pos 0)
    → leaving_by (slice_index (labels_of switches rows states) (from_at switches s) == l) (slice_index (labels_of switches rows states) (to_at switches s) == l) (item flows s) ≡ pos 0
within_group switches rows states links flows l s within tree still =
    let start = alone (length rows.nodes) in
    let es = bridges_of switches rows states in
    let labels = labels_of switches rows states in
    let same : groups switches start es ≡ labels = groups-bridges switches start (closed_switches states) in
    elim (cases_Bool (contains es s)) [
      | inl on ↦
          let one : OneLabel switches (groups switches start es) s = each_among (OneLabel switches (groups switches start es)) s es (groups-joins switches start es within) (among_from s es (contains_is es s on)) in
          let here : slice_index labels (from_at switches s) ≡ slice_index labels (to_at switches s) =
          ap (λ ls. slice_index ls (from_at switches s)) (sym same) ∙ one ∙ ap (λ ls. slice_index ls (to_at switches s)) same in
          ap (λ (k : ℕ). leaving_by (k == l) (slice_index labels (to_at switches s) == l) (item flows s)) here ∙ both_in (slice_index labels (to_at switches s) == l) (item flows s)
      | inr off ↦
          by_nothing (slice_index labels (from_at switches s) == l) (slice_index labels (to_at switches s) == l) (item flows s)
          (still s (λ j below e. both_ways (contains es s) off (ap (contains es) (sym e) ∙ is_contained es (link_at links j).switch (tree.tree.bridge j below))))
    ]

group_ends : (switches : List Switch) (rows : Rows) (states : List SwitchState) (links : List Link) (labels : List ℕ) (l : ℕ) → AreTree switches rows states links
    → HasEnds links (in_group rows labels l) (λ s. slice_index labels (from_at switches s) == l) (λ s. slice_index labels (to_at switches s) == l)
group_ends switches rows states links labels l tree = record {
  leaf_in = λ j below. let k = link_at links j in ap (λ (x : ℕ). slice_index labels x == l) (tree.tree.leaf_end j below) ∙ over_if (λ x. slice_index labels x == l) k.leaves (from_at switches k.switch) (to_at switches k.switch);
  near_in = λ j below. let k = link_at links j in ap (λ (x : ℕ). slice_index labels x == l) (tree.tree.near_end j below) ∙ over_if (λ x. slice_index labels x == l) k.leaves (to_at switches k.switch) (from_at switches k.switch);
}

-- ground isn't in the group of a root that is a node
ground_out : (p : Parts) (rows : Rows) (labels : List ℕ) (row : ℕ) → IsRowOrder p rows → row < length rows.nodes → slice_index rows.nodes row ≡ root_of rows labels (slice_index rows.nodes row)
    → slice_index labels 0 ≢ slice_index labels (slice_index rows.nodes row)
ground_out p rows labels row order in_row own = λ e.
    let low = (nodes_within rows.nodes (once_each p rows order) row in_row).0 in
    let none : slice_index rows.nodes row ≡ 0 = own ∙ root_same rows labels (slice_index rows.nodes row) 0 (sym e) ∙ root_of_ground rows labels in
    omega (arith, low, none)

pub root_takes : (p : Parts) (rows : Rows) (states : List SwitchState) (links : List Link) (leaving rest flows : List ℤ) → IsRowOrder p rows → EndWithin p.switches (length (alone (length rows.nodes))) → AreTree p.switches rows states links
    → length rows.nodes ≡ length leaving → length p.switches ≡ length flows → length rest ≡ length (leaving ++ pos 0 ∷ [])
    → ((side from_in to_in : ℕ → Bool) → HasEnds links side from_in to_in → side_total side rest ≡ side_total side (leaving ++ pos 0 ∷ []) +ℤ sum_below (length flows) (λ s. leaving_by (from_in s) (to_in s) (item flows s)))
    → ((j : ℕ) → j < length links → item rest (link_at links j).leaf ≡ pos 0)
    → ((s : ℕ) → ((j : ℕ) → j < length links → (link_at links j).switch ≢ s) → item flows s ≡ pos 0)
    → RootsBalance p.switches rows states leaving flows
root_takes p rows states links leaving rest flows order within tree size count same balanced cleared still = λ row in_row own.
    let sw = p.switches in
    let n = length rows.nodes in
    let labels = labels_of sw rows states in
    let node = slice_index rows.nodes row in
    let l = slice_index labels node in
    let first = leaving ++ pos 0 ∷ [] in
    let long : length first ≡ suc n = omega (arith, length_push leaving (pos 0), size) in
    let long_rest : length rest ≡ suc n = same ∙ long in
    let side = in_group rows labels l in
    let bridges_same : groups sw (alone n) (bridges_of sw rows states) ≡ labels = groups-bridges sw (alone n) (closed_switches states) in
    -- what the group holds in the end stands at its root
    let f : ℕ → ℤ = λ k. pos 0 in
    let g : ℕ → ℤ = λ k. if side k then item rest k else pos 0 in
    let at_row : g row ≡ item rest row = cond-true (side row) (item rest row) (pos 0) (eq-eqb l l refl) in
    let elsewhere : (k : ℕ) → k < length rest → k ≢ row → g k ≡ f k = λ k below ne. elim (cases_Bool (side k)) [
      | inr off ↦ cond-false (side k) (item rest k) (pos 0) off
      | inl on ↦
          cond-true (side k) (item rest k) (pos 0) on
          ∙ (elim (cases_lt k n) [
            | inl in_rows ↦
                let here : slice_index labels (slice_index rows.nodes k) ≡ l = eqb-true (slice_index labels (slice_index rows.nodes k)) l on in
                let root : root_of rows labels (slice_index rows.nodes k) ≡ node = root_same rows labels (slice_index rows.nodes k) node here ∙ sym own in
                let apart : slice_index rows.nodes k ≢ root_of rows labels (slice_index rows.nodes k) = λ e. ne (one_row rows.nodes (once_each p rows order) k row in_rows in_row (e ∙ root)) in
                let (j, in_links, at) = tree.tree.complete k in_rows (λ e. apart (e ∙ ap (λ ls. root_of rows ls (slice_index rows.nodes k)) bridges_same)) in
                ap (item rest) (sym at) ∙ cleared j in_links
            | inr past ↦
                let ground : slice_index rows.nodes k ≡ 0 = get_or_past rows.nodes k 0 past in
                absurd (ground_out p rows labels row order in_row own (ap (slice_index labels) (sym ground) ∙ eqb-true (slice_index labels (slice_index rows.nodes k)) l on))
          ])
    ] in
    let in_rest : row < length rest = omega (arith, long_rest, in_row) in
    let none : sum_below (length rest) f ≡ pos 0 = sum_below-none (length rest) f (λ k below. refl) in
    let whole : side_total side rest ≡ sum_below (length rest) f +ℤ item rest row = sum_below-one (length rest) row f g (item rest row) in_rest (omega (arith, ints, at_row)) elsewhere in
    -- and what it held at first is what left it
    let h : ℕ → ℤ = λ k. if side k then item first k else pos 0 in
    let ground_side : side n ≡ false = ne_eqb (slice_index labels (slice_index rows.nodes n)) l (λ e. ground_out p rows labels row order in_row own (ap (slice_index labels) (sym (get_or_past rows.nodes n 0 (omega arith))) ∙ e)) in
    let last : h n ≡ pos 0 = cond-false (side n) (item first n) (pos 0) ground_side in
    let begun : side_total side first ≡ sum_below n h +ℤ h n = ap (λ m. sum_below m h) long in
    let each : sum_below n h ≡ leaving_side rows labels l leaving = sum_below_same n h (λ k. if side k then item leaving k else pos 0) (λ k below. ap (λ x. if side k then x else pos 0) (get_or_append_left leaving (pos 0 ∷ []) (pos 0) k (omega (arith, below, size)))) in
    let moves : ℕ → ℤ = λ s. leaving_by (slice_index labels (from_at sw s) == l) (slice_index labels (to_at sw s) == l) (item flows s) in
    let nothing : sum_below (length flows) moves ≡ pos 0 = sum_below-none (length flows) moves (λ s below. within_group sw rows states links flows l s within tree still) in
    let sum : side_total side rest ≡ side_total side first +ℤ sum_below (length flows) moves = balanced side (λ s. slice_index labels (from_at sw s) == l) (λ s. slice_index labels (to_at sw s) == l) (group_ends sw rows states links labels l tree) in
    -- at the root alone
    let out : ℕ → ℤ = λ s. leaving_by (from_at sw s == node) (to_at sw s == node) (item flows s) in
    let alone_sum : side_total (one_place row) rest ≡ side_total (one_place row) first +ℤ sum_below (length flows) out = balanced (one_place row) (λ s. from_at sw s == node) (λ s. to_at sw s == node) (ends_at p rows states links order tree row in_row) in
    let in_first : row < length first = omega (arith, long, in_row) in
    let at_first : item first row ≡ item leaving row = get_or_append_left leaving (pos 0 ∷ []) (pos 0) row (omega (arith, size, in_row)) in
    let all : sum_below (length sw) out ≡ sum_below (length flows) out = ap (λ (k : ℕ). sum_below k out) count in
    omega (arith, ints, held_one rest row in_rest, held_one first row in_first, at_first, alone_sum, all, whole, none, sum, nothing, begun, each, last)
