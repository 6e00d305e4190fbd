use Rattle.std.specs.Prelude.{◌≡◌, length}
use Rattle.std.specs.List.{range_with_len}
use Rattle.std.specs.List.Sorted.{IsPermutation}
use Rattle.std.proofs.Common.{◌∙◌, ap, sym, subst, arith}
use Rattle.std.proofs.lemmas.List.FromFn.{length-range_with_len}
use Rattle.std.proofs.lemmas.List.Sorted.{length_permutation}
use Rattle.emtp_case.specs.RowOrder.{Rows}
use Rattle.emtp_case.specs.held.RowOrder.{IsRowOrder}
use Rattle.emtp_case.proofs.NodeOrder.{AreSorted, rows_are, order_of-IsRowOrder, length-order_of}
use Rattle.emtp_case.proofs.row_order.order.Goals as goal

pub rows_of-requires-clause-few : goal.rows_of-requires-clause-few
rows_of-requires-clause-few c =
    let p = c.args.case.now.parts in
    let len = length_permutation (range_with_len 1 (length p.nodes)) c.in_ok-nodes.nodes.items c.in_ok-nodes.ensures.each_once in
    omega (arith, c.args.case.now.fits.draft.counts.nodes, len, ap length c.deref.ensures.value, length-range_with_len 1 (length p.nodes))

pub rows_of-requires-clause-each_once : goal.rows_of-requires-clause-each_once
rows_of-requires-clause-each_once c =
    let p = c.args.case.now.parts in
    let nodes = c.in_ok-nodes.nodes.items in
    let len : length nodes ≡ length p.nodes = length_permutation (range_with_len 1 (length p.nodes)) nodes c.in_ok-nodes.ensures.each_once ∙ length-range_with_len 1 (length p.nodes) in
    rw c.deref.ensures.value (subst (λ n. IsPermutation (range_with_len 1 n) nodes) (sym len) c.in_ok-nodes.ensures.each_once)

pub returns-clause-value : goal.returns-clause-value
returns-clause-value c =
    let p = c.args.case.now.parts in
    let sorted : AreSorted p (length p.nodes) c.in_ok-nodes.nodes.items = record { each_once = c.in_ok-nodes.ensures.each_once; rising = c.in_ok-nodes.ensures.rising } in
    rows_are p c.in_ok-nodes.nodes.items c.fixed_of-fixed.result sorted c.fixed_of-fixed.ensures

pub returns-clause-order : goal.returns-clause-order
returns-clause-order c = subst (IsRowOrder c.args.case.now.parts) (sym (returns-clause-value c)) (order_of-IsRowOrder c.args.case.now.parts)

pub returns-clause-rows : goal.returns-clause-rows
returns-clause-rows c = ap (λ (r : Rows). length r.nodes) (returns-clause-value c) ∙ length-order_of c.args.case.now.parts
