use Rattle.std.proofs.Common.{arith}
use Rattle.emtp_case.proofs.RowTables.{leads_more, all_lead, nodes_within}
use Rattle.emtp_case.proofs.row_order.rows_of.Goals as goal

pub index_mut-requires : goal.index_mut-requires
index_mut-requires c =
    let here = nodes_within c.args.nodes.now c.requires.each_once c.loop-row.row c.loop-row-test.true in
    omega (arith, here.1, c.loop-row.invariant.one_more)

pub loop-row-preserved : goal.loop-row-preserved
loop-row-preserved c = leads_more c.args.nodes.now c.loop-row.rows.items c.requires.each_once c.loop-row.row c.loop-row-test.true c.loop-row.invariant

pub returns : goal.returns
returns c = all_lead c.args.nodes.now c.loop-row.rows.items c.requires.each_once c.loop-row.row (omega arith) c.loop-row.invariant
