use Rattle.std.proofs.Common.{◌≡◌, ◌<◌, ◌/◌, ◌∙◌, ◌+ℤ◌, ap, sym, get_or, length, refl, arith}
use Rattle.std.proofs.lemmas.Int.{ints}
use Rattle.emtp_elim.specs.Matrix.{item}
use Rattle.emtp_case.specs.NodeRows.{node_at}
use Rattle.emtp_case.proofs.RowsOfNodes.{order_at, order_size}
use Rattle.emtp_admittance.specs.Admittances.{is_imaginary, port_at}
use Rattle.emtp_phasor.specs.Doubled.{admittance_entry}
use Rattle.emtp_phasor.proofs.BranchLists.{lists_count, node_list, place_there}
use Rattle.emtp_phasor.proofs.Ports.{branch_more, node_entry, places_small}
use Rattle.emtp_phasor.proofs.fill.add_node.Goals as goal

pub node_at-node-requires : goal.node_at-node-requires
node_at-node-requires c = omega (arith, c.requires.row, order_size c.args.network.case.now.parts c.args.network.order.now c.requires.network.order_is)

pub bounds-lists-row : goal.bounds-lists-row
bounds-lists-row c = omega (arith, c.requires.row, ap length c.requires.network.lists_are, lists_count c.args.network.case.now.parts)

pub add_branch-requires-clause-there : goal.add_branch-requires-clause-there
add_branch-requires-clause-there c =
    let case = c.args.network.case.now.parts in
    let node = c.node_at-node.result in
    let are = node_list case c.args.network.order.now c.args.network.lists.now c.args.row node c.index-lists-row.result c.as_slice-places.result.now c.requires.network.order_is c.requires.network.lists_are c.requires.row c.node_at-node.ensures.node c.index-lists-row.is c.as_slice-places.ensures in
    place_there case node c.loop-place.place-index 0 c.as_slice-places.result.now are c.loop-place-test.true

pub add_branch-requires-clause-out : goal.add_branch-requires-clause-out
add_branch-requires-clause-out c = c.loop-place.invariant.same ∙ c.requires.out

pub add_branch-requires-clause-bound : goal.add_branch-requires-clause-bound
add_branch-requires-clause-bound c = λ j below.
    let case = c.args.network.case.now.parts in
    let node = c.node_at-node.result in
    let are = node_list case c.args.network.order.now c.args.network.lists.now c.args.row node c.index-lists-row.result c.as_slice-places.result.now c.requires.network.order_is c.requires.network.lists_are c.requires.row c.node_at-node.ensures.node c.index-lists-row.is c.as_slice-places.ensures in
    let small = places_small case c.args.network.ports.now c.args.imaginary (is_imaginary j) node (node_at case (j / 2)) c.loop-place.place-index c.as_slice-places.result.now c.requires.network.small are c.loop-place.auto.place-index-end c.args.network.case.now.fits.draft.counts.branches in
    omega (arith, ints, c.loop-place.invariant.value j below, c.requires.bound j (omega (arith, below, c.loop-place.invariant.same)), small)

pub loop-place-preserved : goal.loop-place-preserved
loop-place-preserved c =
    let case = c.args.network.case.now.parts in
    let ports = c.args.network.ports.now in
    let places = c.as_slice-places.result.now in
    record {
      same = c.add_branch.ensures.same ∙ c.loop-place.invariant.same;
      value = λ j below.
          let here : j < length c.loop-place.out = omega (arith, below, c.add_branch.ensures.same) in
          branch_more case ports c.args.imaginary (is_imaginary j) c.node_at-node.result (node_at case (j / 2)) c.loop-place.place-index places _ _ _ (port_at ports (get_or places c.loop-place.place-index 0)) c.loop-place-test.true refl (c.loop-place.invariant.value j here) (c.add_branch.ensures.value j here);
    }

pub returns-clause-same : goal.returns-clause-same
returns-clause-same c = c.loop-place.invariant.same

pub returns-clause-value : goal.returns-clause-value
returns-clause-value c = λ j below.
    let case = c.args.network.case.now.parts in
    let ports = c.args.network.ports.now in
    let node = c.node_at-node.result in
    let there : node ≡ node_at case c.args.row = sym c.node_at-node.ensures.node ∙ order_at case c.args.network.order.now c.args.row c.requires.network.order_is in
    let are = node_list case c.args.network.order.now c.args.network.lists.now c.args.row node c.index-lists-row.result c.as_slice-places.result.now c.requires.network.order_is c.requires.network.lists_are c.requires.row c.node_at-node.ensures.node c.index-lists-row.is c.as_slice-places.ensures in
    node_entry case ports c.args.imaginary (is_imaginary j) node (node_at case (j / 2)) c.loop-place.place-index c.as_slice-places.result.now _ _ are (omega (arith, c.loop-place-test.false))
    (c.loop-place.invariant.value j (omega (arith, below, c.loop-place.invariant.same)))
    ∙ ap (λ n. item c.args.out.now j +ℤ admittance_entry case ports c.args.imaginary (is_imaginary j) n (node_at case (j / 2))) there
