-- Kirchhoff's law at the nodes that closed switches join.
use Rattle.std.proofs.Common.{◌≡◌, ◌≢◌, ℕ, ◌<◌, ◌≤◌, ◌==◌, ◌++◌, ◌∷◌, [], ℤ, pos, ◌+ℤ◌, Bool, if◌then◌else◌, List, length, slice_index, refl, ap, sym, ◌∙◌, inl, inr, arith}
use Rattle.std.proofs.lemmas.Bool.{cases_eq, cases_lt, eq-eqb, ne_eqb, cond-true, cond-false}
use Rattle.std.proofs.lemmas.Int.{ints}
use Rattle.std.proofs.lemmas.List.{get_or_append_left, get_or_past, length_push}
use Rattle.std.specs.List.{range_with_len}
use Rattle.std.specs.List.Sorted.{IsPermutation}
use Rattle.emtp_case.proofs.RowTables.{nodes_apart, nodes_within}
use Rattle.emtp_case.specs.RowOrder.{Rows}
use Rattle.emtp_case.specs.held.RowOrder.{IsRowOrder}
use Rattle.emtp_case.specs.declared.case.Parts.{Parts}
use Rattle.emtp_case.specs.declared.switch.SwitchState.{SwitchState}
use Rattle.emtp_case.specs.Sums.{sum_below}
use Rattle.emtp_fix.specs.Items.{item}
use Rattle.emtp_switch.specs.held.Currents.{Balances, leaving_by}
use Rattle.emtp_switch.specs.held.Grouping.{AreTree}
use Rattle.emtp_switch.specs.Groups.{alone, closed_switches, from_at, root_of, to_at}
use Rattle.emtp_switch.specs.held.Tree.{HasEnds, side_total, link_at}
use Rattle.emtp_switch.specs.declared.sweep.Link.{Link}
use Rattle.emtp_switch.proofs.Finding.{groups-bridges}
use Rattle.emtp_switch.proofs.Flows.{sum_below-none, sum_below-one}
use Rattle.emtp_switch.proofs.Plans.{once_each}
use Rattle.emtp_switch.proofs.Growth.{over_if}

-- a side of one place
abbrev pub one_place : ℕ → ℕ → Bool
one_place row p = p == row

pub held_one : (rest : List ℤ) (row : ℕ) → row < length rest → side_total (one_place row) rest ≡ item rest row
held_one rest row inside =
    let f : ℕ → ℤ = λ p. pos 0 in
    let g : ℕ → ℤ = λ p. if p == row then item rest p else pos 0 in
    let none : sum_below (length rest) f ≡ pos 0 = sum_below-none (length rest) f (λ p below. refl) in
    let own : g row ≡ item rest row = cond-true (row == row) (item rest row) (pos 0) (eq-eqb row row refl) in
    let one = sum_below-one (length rest) row f g (item rest row) inside (omega (arith, ints, own)) (λ p below ne. cond-false (p == row) (item rest p) (pos 0) (ne_eqb p row ne)) in
    omega (arith, ints, one, none)

-- a place is that of a node exactly where their nodes are one
same_place : (p : Parts) (rows : Rows) → IsRowOrder p rows → (place row : ℕ) → place ≤ length rows.nodes → row < length rows.nodes
    → (place == row) ≡ (slice_index rows.nodes place == slice_index rows.nodes row)
same_place p rows is place row in_place in_row = elim (cases_eq place row) [
  | inl here ↦ eq-eqb place row here ∙ sym (eq-eqb (slice_index rows.nodes place) (slice_index rows.nodes row) (ap (slice_index rows.nodes) here))
  | inr ne ↦ ne_eqb place row ne ∙ sym (ne_eqb (slice_index rows.nodes place) (slice_index rows.nodes row) (apart ne))
]
  where
    once : IsPermutation (range_with_len 1 (length rows.nodes)) rows.nodes
    once = once_each p rows is

    apart : place ≢ row → slice_index rows.nodes place ≢ slice_index rows.nodes row
    apart ne e = elim (cases_lt place (length rows.nodes)) [
      | inl in_rows ↦ elim (cases_lt place row) [
        | inl below ↦ nodes_apart rows.nodes once place row below in_row e
        | inr above ↦ nodes_apart rows.nodes once row place (omega arith) in_rows (sym e)
      ]
      | inr past ↦ let ground : slice_index rows.nodes place ≡ 0 = get_or_past rows.nodes place 0 past in absurd (omega (arith, ground, e, (nodes_within rows.nodes once row in_row).0))
    ]

pub ends_at : (p : Parts) (rows : Rows) (states : List SwitchState) (links : List Link) → IsRowOrder p rows → AreTree p.switches rows states links → (row : ℕ) → row < length rows.nodes
    → HasEnds links (one_place row) (λ s. from_at p.switches s == slice_index rows.nodes row) (λ s. to_at p.switches s == slice_index rows.nodes row)
ends_at p rows states links is tree row in_row =
    let node = slice_index rows.nodes row in
    record {
      leaf_in = λ j below.
          let l = link_at links j in
          same_place p rows is l.leaf row (omega (arith, tree.links_are.leaf_there j below)) in_row ∙ ap (λ x. x == node) (tree.tree.leaf_end j below) ∙ over_if (λ x. x == node) l.leaves (from_at p.switches l.switch) (to_at p.switches l.switch);
      near_in = λ j below.
          let l = link_at links j in
          same_place p rows is l.near row (omega (arith, tree.links_are.near_there j below)) in_row ∙ ap (λ x. x == node) (tree.tree.near_end j below) ∙ over_if (λ x. x == node) l.leaves (to_at p.switches l.switch) (from_at p.switches l.switch);
    }

pub balances : (p : Parts) (rows : Rows) (states : List SwitchState) (links : List Link) (leaving first rest flows : List ℤ) (n : ℕ) → IsRowOrder p rows → AreTree p.switches rows states links
    → length rows.nodes ≡ length leaving → length p.switches ≡ n → first ≡ leaving ++ pos 0 ∷ [] → length rest ≡ length first
    → ((side from_in to_in : ℕ → Bool) → HasEnds links side from_in to_in → side_total side rest ≡ side_total side first +ℤ sum_below n (λ s. leaving_by (from_in s) (to_in s) (item flows s)))
    → ((j : ℕ) → j < length links → item rest (link_at links j).leaf ≡ pos 0)
    → Balances p.switches rows states leaving flows
balances p rows states links leaving first rest flows n is tree size count first_is same balanced cleared = λ row in_row other.
    let sw = p.switches in
    let node = slice_index rows.nodes row in
    let (j, in_links, at) = tree.tree.complete row in_row (λ e. other (e ∙ ap (λ l. root_of rows l node) (groups-bridges sw (alone (length rows.nodes)) (closed_switches states)))) in
    let nothing : item rest row ≡ pos 0 = ap (item rest) (sym at) ∙ cleared j in_links in
    let in_first : row < length first = omega (arith, ap length first_is, length_push leaving (pos 0), size) in
    let at_first : item first row ≡ item leaving row = ap (λ l. item l row) first_is ∙ get_or_append_left leaving (pos 0 ∷ []) (pos 0) row (omega (arith, size)) in
    let f : ℕ → ℤ = λ s. leaving_by (from_at sw s == node) (to_at sw s == node) (item flows s) in
    let sum : side_total (one_place row) rest ≡ side_total (one_place row) first +ℤ sum_below n f = balanced (one_place row) (λ s. from_at sw s == node) (λ s. to_at sw s == node) (ends_at p rows states links is tree row in_row) in
    let all : sum_below (length sw) f ≡ sum_below n f = ap (λ (k : ℕ). sum_below k f) count in
    omega (arith, ints, held_one rest row (omega (arith, same)), held_one first row in_first, nothing, at_first, sum, all)
