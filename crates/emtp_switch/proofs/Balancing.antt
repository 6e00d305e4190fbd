-- The currents of the switches balance, whatever leaves the nodes: the tree of the bridges is there, and a sweep over it finds
-- them.
use Rattle.std.proofs.Common.{◌≡◌, ◌∙◌, ◌+◌, ◌++◌, ◌<◌, ◌≢◌, ℕ, zero, suc, ℤ, pos, List, [], ◌∷◌, length, replicate, slice_set, length-set, refl, sym, subst, arith}
use Rattle.std.proofs.lemmas.List.FromFn.{length-range_with_len}
use Rattle.std.proofs.lemmas.List.{length_push, length-replicate}
use Rattle.emtp_case.specs.RowOrder.{Rows}
use Rattle.emtp_case.specs.held.RowOrder.{IsRowOrder}
use Rattle.emtp_case.specs.declared.case.Parts.{Parts}
use Rattle.emtp_case.specs.declared.switch.SwitchState.{SwitchState}
use Rattle.emtp_fix.specs.Items.{item}
use Rattle.emtp_switch.specs.Currents.{currents_of}
use Rattle.emtp_switch.specs.held.Currents.{Balances, RootsBalance}
use Rattle.emtp_switch.specs.Groups.{alone}
use Rattle.emtp_switch.specs.held.Groups.{EndWithin}
use Rattle.emtp_switch.specs.held.Tree.{AreLinks, flow_of, folded, link_at}
use Rattle.emtp_switch.specs.declared.sweep.Link.{Link}
use Rattle.emtp_switch.proofs.Flows.{AreCarried, carried_more, carried_none}
use Rattle.emtp_switch.proofs.FoundCurrents.{flows_are}
use Rattle.emtp_switch.proofs.GroupTotals.{root_takes}
use Rattle.emtp_switch.proofs.GrownTree.{tree_there}
use Rattle.emtp_switch.proofs.Kirchhoff.{balances}
use Rattle.emtp_switch.proofs.Regrouping.{rows_within}

-- what is held and carried once the links from k on are folded
record IsCarried (links : List Link) (start : List ℤ) (switches k : ℕ) : Type 0 where
  rest : List ℤ
  flows : List ℤ
  places : length rest ≡ length start
  count : length flows ≡ switches
  are : AreCarried links start rest flows k

-- j links are folded, from the last one back
carried_from : (links : List Link) (start : List ℤ) (switches j k : ℕ) → AreLinks links (length start) switches → length links ≡ j + k → IsCarried links start switches k
carried_from links start switches zero k are all = record {
  rest = start;
  flows = replicate switches (pos 0);
  places = refl;
  count = length-replicate switches (pos 0);
  are = carried_none links start (replicate switches (pos 0)) k (omega (arith, all)) (zeros switches);
}
  where
    zeros : (n s : ℕ) → item (replicate n (pos 0)) s ≡ pos 0
    zeros zero s = refl
    zeros (suc n) zero = refl
    zeros (suc n) (suc s) = zeros n s
carried_from links start switches (suc j) k are all =
    let was = carried_from links start switches j (k + 1) are (omega (arith, all)) in
    let l = link_at links k in
    let here : AreLinks links (length was.rest) (length was.flows) = subst (λ n. AreLinks links n (length was.flows)) (sym was.places) (subst (AreLinks links (length start)) (sym was.count) are) in
    record {
      rest = folded l was.rest;
      flows = slice_set was.flows l.switch (flow_of l was.rest);
      places =
          length-set (slice_set was.rest l.leaf (pos 0)) l.near _
          ∙ length-set was.rest l.leaf (pos 0)
          ∙ was.places;
      count = length-set was.flows l.switch (flow_of l was.rest) ∙ was.count;
      are = carried_more links start was.rest was.flows (folded l was.rest) (k + 1) k (flow_of l was.rest) here was.are refl (omega (arith, all)) refl refl;
    }

-- at each node but the roots they cancel what leaves it, and a root takes what leaves its group
pub record AreBalanced (p : Parts) (rows : Rows) (states : List SwitchState) (leaving currents : List ℤ) : Type 0 where
  pub nodes : Balances p.switches rows states leaving currents
  pub roots : RootsBalance p.switches rows states leaving currents

pub currents_balance : (p : Parts) (rows : Rows) (states : List SwitchState) (leaving : List ℤ) → IsRowOrder p rows → EndWithin p.switches (length rows.nodes + 1) → length states ≡ length p.switches → length rows.nodes ≡ length leaving
    → AreBalanced p rows states leaving (currents_of p.switches rows states leaving)
currents_balance p rows states leaving order within count size =
    let (links, tree) = tree_there p rows states order within count in
    let first = leaving ++ pos 0 ∷ [] in
    let long : length first ≡ length rows.nodes + 1 = omega (arith, length_push leaving (pos 0), size) in
    let end = carried_from links first (length p.switches) (length links) 0 (subst (λ n. AreLinks links n (length p.switches)) (sym long) tree.links_are) (omega arith) in
    let cleared : (j : ℕ) → j < length links → item end.rest (link_at links j).leaf ≡ pos 0 = λ j below. end.are.cleared j (omega arith) below in
    let still : (s : ℕ) → ((j : ℕ) → j < length links → (link_at links j).switch ≢ s) → item end.flows s ≡ pos 0 = λ s none. end.are.still s (λ j low high. none j high) in
    let found : end.flows ≡ currents_of p.switches rows states leaving =
    flows_are p.switches rows states links leaving first end.rest end.flows size (sym end.count) within (rows_within p rows order) tree refl end.places end.are.carried cleared still in
    let ends : EndWithin p.switches (length (alone (length rows.nodes))) = subst (EndWithin p.switches) (sym (length-range_with_len 0 (length rows.nodes + 1))) within in
    subst (AreBalanced p rows states leaving) found
    (record {
      nodes = balances p rows states links leaving first end.rest end.flows (length end.flows) order tree size (sym end.count) refl end.places end.are.balanced cleared;
      roots = root_takes p rows states links leaving end.rest end.flows order ends tree size (sym end.count) end.places end.are.balanced cleared still;
    })
