use Rattle.emtp_case.specs.declared.limit.TheConstants.{MOST_BRANCHES}
use Rattle.std.proofs.Common.{◌≡◌, ◌∙◌, ◌<◌, ◌≤◌, sym, ap, get_or, length, refl, slice_get, arith}
use Rattle.std.proofs.lemmas.Int.{ints}
use Rattle.emtp_case.specs.NodeRows.{node_at}
use Rattle.emtp_case.proofs.RowsOfNodes.{order_at, order_size}
use Rattle.emtp_admittance.specs.Admittances.{port_at}
use Rattle.emtp_phasor.specs.Steady.{leaving_node, leaving_through}
use Rattle.emtp_phasor.specs.Volts.{source_phasors_into}
use Rattle.emtp_phasor.proofs.BranchLists.{lists_count, node_list, place_total_more, place_there, places_few}
use Rattle.emtp_phasor.proofs.Flowing.{flow_read, from_there, leaving_is, leaving_read, to_there}
use Rattle.emtp_phasor.proofs.flow.leaving.Goals as goal

pub node_at-node-requires : goal.node_at-node-requires
node_at-node-requires c = omega (arith, c.requires.row, order_size c.args.network.case.now.parts c.args.network.order.now c.requires.network.order_is)

pub bounds-lists-row : goal.bounds-lists-row
bounds-lists-row c = omega (arith, c.requires.row, ap length c.requires.network.lists_are, lists_count c.args.network.case.now.parts)

pub bounds-ports-at : goal.bounds-ports-at
bounds-ports-at c =
    let case = c.args.network.case.now.parts in
    let node = c.node_at-node.result in
    let are = node_list case c.args.network.order.now c.args.network.lists.now c.args.row node c.index-lists-row.result c.as_slice-places.result.now c.requires.network.order_is c.requires.network.lists_are c.requires.row c.node_at-node.ensures.node c.index-lists-row.is c.as_slice-places.ensures in
    omega (arith, c.requires.network.ports_count, place_there case node c.loop-place.place-index 0 c.as_slice-places.result.now are c.loop-place-test.true)

pub bounds-branches-at : goal.bounds-branches-at
bounds-branches-at c =
    let case = c.args.network.case.now.parts in
    let node = c.node_at-node.result in
    let are = node_list case c.args.network.order.now c.args.network.lists.now c.args.row node c.index-lists-row.result c.as_slice-places.result.now c.requires.network.order_is c.requires.network.lists_are c.requires.row c.node_at-node.ensures.node c.index-lists-row.is c.as_slice-places.ensures in
    omega (arith, ap length c.as_slice-branches.ensures, place_there case node c.loop-place.place-index 0 c.as_slice-places.result.now are c.loop-place-test.true)

pub leaving_by-sum-requires-clause-small : goal.leaving_by-sum-requires-clause-small
leaving_by-sum-requires-clause-small c =
    let case = c.args.network.case.now.parts in
    let node = c.node_at-node.result in
    let are = node_list case c.args.network.order.now c.args.network.lists.now c.args.row node c.index-lists-row.result c.as_slice-places.result.now c.requires.network.order_is c.requires.network.lists_are c.requires.row c.node_at-node.ensures.node c.index-lists-row.is c.as_slice-places.ensures in
    let there : get_or c.as_slice-places.result.now c.loop-place.place-index 0 < length c.args.network.ports.now = omega (arith, c.requires.network.ports_count, place_there case node c.loop-place.place-index 0 c.as_slice-places.result.now are c.loop-place-test.true) in
    c.requires.network.small _ _ there

pub leaving_by-sum-requires-clause-from : goal.leaving_by-sum-requires-clause-from
leaving_by-sum-requires-clause-from c =
    let case = c.args.network.case.now.parts in
    let node = c.node_at-node.result in
    let are = node_list case c.args.network.order.now c.args.network.lists.now c.args.row node c.index-lists-row.result c.as_slice-places.result.now c.requires.network.order_is c.requires.network.lists_are c.requires.row c.node_at-node.ensures.node c.index-lists-row.is c.as_slice-places.ensures in
    let there = place_there case node c.loop-place.place-index 0 c.as_slice-places.result.now are c.loop-place-test.true in
    from_there case c.as_slice-branches.result.now (get_or c.as_slice-places.result.now c.loop-place.place-index 0) (length c.args.volts.now) _ c.args.network.case.now.fits.draft.network c.as_slice-branches.ensures there c.requires.nodes

pub leaving_by-sum-requires-clause-to : goal.leaving_by-sum-requires-clause-to
leaving_by-sum-requires-clause-to c =
    let case = c.args.network.case.now.parts in
    let node = c.node_at-node.result in
    let are = node_list case c.args.network.order.now c.args.network.lists.now c.args.row node c.index-lists-row.result c.as_slice-places.result.now c.requires.network.order_is c.requires.network.lists_are c.requires.row c.node_at-node.ensures.node c.index-lists-row.is c.as_slice-places.ensures in
    let there = place_there case node c.loop-place.place-index 0 c.as_slice-places.result.now are c.loop-place-test.true in
    to_there case c.as_slice-branches.result.now (get_or c.as_slice-places.result.now c.loop-place.place-index 0) (length c.args.volts.now) _ c.args.network.case.now.fits.draft.network c.as_slice-branches.ensures there c.requires.nodes

pub leaving_by-sum-requires-clause-flows : goal.leaving_by-sum-requires-clause-flows
leaving_by-sum-requires-clause-flows c =
    let case = c.args.network.case.now.parts in
    let node = c.node_at-node.result in
    let are = node_list case c.args.network.order.now c.args.network.lists.now c.args.row node c.index-lists-row.result c.as_slice-places.result.now c.requires.network.order_is c.requires.network.lists_are c.requires.row c.node_at-node.ensures.node c.index-lists-row.is c.as_slice-places.ensures in
    let at = get_or c.as_slice-places.result.now c.loop-place.place-index 0 in
    let there : at < length case.branches = place_there case node c.loop-place.place-index 0 c.as_slice-places.result.now are c.loop-place-test.true in
    flow_read case c.args.network.ports.now c.args.volts.now c.as_slice-branches.result.now at _ _ _ _ _ c.as_slice-branches.ensures there (omega (arith, there, c.requires.network.ports_count)) refl refl refl ∙ c.requires.flows at there

pub loop-place-preserved : goal.loop-place-preserved
loop-place-preserved c =
    let case = c.args.network.case.now.parts in
    let node = c.node_at-node.result in
    let places = c.as_slice-places.result.now in
    let are = node_list case c.args.network.order.now c.args.network.lists.now c.args.row node c.index-lists-row.result places c.requires.network.order_is c.requires.network.lists_are c.requires.row c.node_at-node.ensures.node c.index-lists-row.is c.as_slice-places.ensures in
    let i = c.loop-place.place-index in
    let at = get_or places i 0 in
    let there : at < length case.branches = place_there case node i 0 places are c.loop-place-test.true in
    let few : i < MOST_BRANCHES = omega (arith, c.loop-place-test.true, ap length are, places_few case node, c.args.network.case.now.fits.draft.counts.branches) in
    let here = leaving_read case c.args.network.ports.now c.args.volts.now c.args.imaginary node c.as_slice-branches.result.now at _ _ _ _ c.leaving_by-sum.result c.as_slice-branches.ensures there (omega (arith, there, c.requires.network.ports_count)) refl refl c.leaving_by-sum.ensures.value in
    record {
      sum_is = place_total_more (λ b. leaving_through c.args.imaginary (port_at c.args.network.ports.now b) c.args.volts.now node (slice_get case.branches b)) places i _ c.leaving_by-sum.result _ c.loop-place-test.true here c.loop-place.invariant.sum_is (omega (arith, ints, c.leaving_by-sum.ensures.small, c.loop-place.invariant.small, few));
      small = omega (arith, ints, c.leaving_by-sum.ensures.small, c.loop-place.invariant.small, few);
    }

pub returns-clause-value : goal.returns-clause-value
returns-clause-value c =
    let case = c.args.network.case.now.parts in
    let node = c.node_at-node.result in
    let places = c.as_slice-places.result.now in
    let at_row : node ≡ node_at case c.args.row = sym c.node_at-node.ensures.node ∙ order_at case c.args.network.order.now c.args.row c.requires.network.order_is in
    let are = node_list case c.args.network.order.now c.args.network.lists.now c.args.row node c.index-lists-row.result places c.requires.network.order_is c.requires.network.lists_are c.requires.row c.node_at-node.ensures.node c.index-lists-row.is c.as_slice-places.ensures in
    let few : c.loop-place.place-index ≤ MOST_BRANCHES = omega (arith, c.loop-place.auto.place-index-end, ap length are, places_few case node, c.args.network.case.now.fits.draft.counts.branches) in
    leaving_is case c.args.network.ports.now c.args.volts.now c.args.imaginary node c.loop-place.place-index places _ c.brought_at.result _ are (omega (arith, c.loop-place-test.false)) c.loop-place.invariant.sum_is (c.brought_at.ensures.value ∙ ap (source_phasors_into case c.args.imaginary) (sym at_row)) (omega (arith, ints, c.loop-place.invariant.small, c.brought_at.ensures.small, few))
    ∙ ap (leaving_node case c.args.network.ports.now c.args.volts.now c.args.imaginary) at_row

pub returns-clause-bound : goal.returns-clause-bound
returns-clause-bound c =
    let case = c.args.network.case.now.parts in
    let node = c.node_at-node.result in
    let places = c.as_slice-places.result.now in
    let are = node_list case c.args.network.order.now c.args.network.lists.now c.args.row node c.index-lists-row.result places c.requires.network.order_is c.requires.network.lists_are c.requires.row c.node_at-node.ensures.node c.index-lists-row.is c.as_slice-places.ensures in
    let few : c.loop-place.place-index ≤ MOST_BRANCHES = omega (arith, c.loop-place.auto.place-index-end, ap length are, places_few case node, c.args.network.case.now.fits.draft.counts.branches) in
    omega (arith, ints, c.loop-place.invariant.small, c.brought_at.ensures.small, few)
