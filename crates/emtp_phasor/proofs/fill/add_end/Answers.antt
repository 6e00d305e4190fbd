use Rattle.std.proofs.Common.{◌≡◌, ◌<◌, ◌+◌, ◌*◌, ◌+ℤ◌, ℤ, pos, true, false, ap, length, length-set, to_z, of_z, arith}
use mir.Syntax.{w128}
use Rattle.std.proofs.lemmas.Int.{ints}
use Rattle.std.proofs.lemmas.List.{get_or-set_other}
use Rattle.emtp_elim.specs.Matrix.{item}
use Rattle.emtp_admittance.specs.Admittances.{in_block, is_imaginary}
use Rattle.emtp_case.proofs.RowsOfNodes.{order_size, row_read}
use Rattle.emtp_phasor.proofs.Blocks.{node_pair_set, ground_pair}
use Rattle.emtp_phasor.proofs.fill.add_end.Goals as goal

pub row_of-row-requires-clause-high : goal.row_of-row-requires-clause-high
row_of-row-requires-clause-high c = omega (arith, order_size c.args.network.case.now.parts c.args.network.order.now c.requires.network.order_is, c.requires.node)

pub overflow_mul-row : goal.overflow_mul-row
overflow_mul-row c = omega (arith, order_size c.args.network.case.now.parts c.args.network.order.now c.requires.network.order_is, c.row_of-row.ensures.within, c.args.network.case.now.fits.draft.counts.nodes)

pub overflow_mul-row-then-node-ne0 : goal.overflow_mul-row-then-node-ne0
overflow_mul-row-then-node-ne0 c = omega (arith, order_size c.args.network.case.now.parts c.args.network.order.now c.requires.network.order_is, c.row_of-row.ensures.within, c.args.network.case.now.fits.draft.counts.nodes)

pub overflow_add-row : goal.overflow_add-row
overflow_add-row c = omega (arith, order_size c.args.network.case.now.parts c.args.network.order.now c.requires.network.order_is, c.row_of-row.ensures.within, c.args.network.case.now.fits.draft.counts.nodes)

pub add_to-requires-clause-place : goal.add_to-requires-clause-place
add_to-requires-clause-place c = omega (arith, order_size c.args.network.case.now.parts c.args.network.order.now c.requires.network.order_is, c.row_of-row.ensures.within, c.requires.out)

pub add_to-requires-then-node-ne0-clause-place : goal.add_to-requires-then-node-ne0-clause-place
add_to-requires-then-node-ne0-clause-place c = omega (arith, order_size c.args.network.case.now.parts c.args.network.order.now c.requires.network.order_is, c.row_of-row.ensures.within, c.requires.out, ap length c.add_to.ensures, length-set {A = ℤ})

pub add_to-requires-then-node-ne0-clause-number : goal.add_to-requires-then-node-ne0-clause-number
add_to-requires-then-node-ne0-clause-number c =
    let row = c.row_of-row.result in
    let out = c.args.out.now in
    let a = to_z w128 (of_z w128 c.real_column.result) in
    let inside : 2 * row + 1 < length out = omega (arith, order_size c.args.network.case.now.parts c.args.network.order.now c.requires.network.order_is, c.row_of-row.ensures.within, c.requires.out) in
    rw (c.add_to.ensures, get_or-set_other out (2 * row) (2 * row + 1) (item out (2 * row) +ℤ a) (pos 0) (λ e. omega (arith, e))) (omega (arith, c.requires.bound (2 * row + 1) inside))

pub returns-then-node-ne0-clause-same : goal.returns-then-node-ne0-clause-same
returns-then-node-ne0-clause-same c = omega (arith, ap length c.add_to.ensures, ap length c.add_to-then-node-ne0.ensures, length-set {A = ℤ})

pub returns-then-node-ne0-clause-value : goal.returns-then-node-ne0-clause-value
returns-then-node-ne0-clause-value c = λ j below.
    let case = c.args.network.case.now.parts in
    let is = row_read case c.args.network.order.now c.args.node c.row_of-row.result c.requires.network.order_is c.row_of-row.ensures.within c.row_of-row.ensures.there c.row_of-row.ensures.only in
    let wide : to_z w128 (of_z w128 c.real_column.result) ≡ in_block c.args.imaginary false c.args.y.now = omega (arith, ints, c.real_column.ensures.value, c.real_column.ensures.small) in
    let wide_2 : to_z w128 (of_z w128 c.imaginary_column.result) ≡ in_block c.args.imaginary true c.args.y.now = omega (arith, ints, c.imaginary_column.ensures.value, c.imaginary_column.ensures.small) in
    let first = rw wide at c.add_to.ensures in
    let second = rw wide_2 at c.add_to-then-node-ne0.ensures in
    let long : length c.add_to.new.self ≡ length c.args.out.now = omega (arith, ap length c.add_to.ensures, length-set {A = ℤ}) in
    node_pair_set case c.args.out.now c.add_to.new.self c.add_to-then-node-ne0.new.self c.args.node c.row_of-row.result j c.args.imaginary c.args.y.now c.requires.out is first long second below

pub returns-else-node-ne0-clause-value : goal.returns-else-node-ne0-clause-value
returns-else-node-ne0-clause-value c = λ j below. rw c.if-node-ne0.false (ground_pair c.args.network.case.now.parts c.args.out.now j (in_block c.args.imaginary (is_imaginary j) c.args.y.now) c.requires.out below)
