use Rattle.std.proofs.Common.{◌≡◌, ◌∙◌, ◌<◌, ◌/◌, ◌^◌, sym, ap, length, to_z, of_z, arith}
use mir.Syntax.{w128}
use Rattle.std.proofs.lemmas.Int.{ints}
use Rattle.emtp_case.specs.NodeRows.{node_at}
use Rattle.emtp_case.proofs.RowsOfNodes.{order_at, order_size}
use Rattle.emtp_admittance.specs.Admittances.{is_imaginary}
use Rattle.emtp_phasor.specs.Volts.{source_phasors_into}
use Rattle.emtp_phasor.proofs.Sourcing.{brought_all, brought_more, small_more}
use Rattle.emtp_phasor.proofs.sources.fill_brought.Goals as goal

pub node_at-node-requires : goal.node_at-node-requires
node_at-node-requires c = omega (arith, c.loop-row-test.true, c.requires.out, order_size c.args.case.now.parts c.args.order.now c.requires.order)

pub loop-row-preserved : goal.loop-row-preserved
loop-row-preserved c =
    let case = c.args.case.now.parts in
    let row = c.loop-row.row in
    let inside : row < length c.loop-row.out = omega (arith, c.loop-row-test.true, c.loop-row.auto.out) in
    let there : c.node_at-node.result ≡ node_at case (row / 2) = sym c.node_at-node.ensures.node ∙ order_at case c.args.order.now (row / 2) c.requires.order in
    let is : c.sources_into.result ≡ source_phasors_into case (is_imaginary row) (node_at case (row / 2)) = c.sources_into.ensures.value ∙ ap (source_phasors_into case (is_imaginary row)) there in
    let wide : to_z w128 (of_z w128 c.sources_into.result) ≡ c.sources_into.result = omega (arith, ints, c.sources_into.ensures.small) in
    rw wide (record {
      each = brought_more case c.loop-row.out row c.sources_into.result inside is c.loop-row.invariant.each;
      small = small_more (10 ^ 21) c.loop-row.out row c.sources_into.result inside c.sources_into.ensures.small c.loop-row.invariant.small;
    })

pub returns-clause-value : goal.returns-clause-value
returns-clause-value c = brought_all c.args.case.now.parts c.loop-row.out c.loop-row.row (omega (arith, c.loop-row.auto.out, c.requires.out)) (omega (arith, c.loop-row.auto.row-end, c.loop-row-test.false)) c.loop-row.invariant.each

pub returns-clause-small : goal.returns-clause-small
returns-clause-small c = λ r below. c.loop-row.invariant.small r (omega (arith, below, c.requires.out, c.loop-row.auto.out, c.loop-row.auto.row-end, c.loop-row-test.false))
