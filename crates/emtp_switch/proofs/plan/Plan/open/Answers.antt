use Rattle.std.proofs.Common.{sym, ◌∙◌}
use Rattle.emtp_switch.proofs.Plans.{planned, same_count}
use Rattle.emtp_switch.proofs.plan.Plan.open.Goals as goal

pub rank-requires : goal.rank-requires
rank-requires c = record { rows = c.len-rows.ensures ∙ sym (same_count c.args.case.now.parts c.args.order.now c.requires.order) }

pub know-requires-clause-rows : goal.know-requires-clause-rows
know-requires-clause-rows c = c.len-rows.ensures ∙ sym (same_count c.args.case.now.parts c.args.order.now c.requires.order)

pub returns : goal.returns
returns c =
    planned c.args.case.now.parts c.args.order.now (record { ranked = c.in_ok-ranked.ranked; known = c.in_ok-known.known; ends = c.in_ok-ends.ends }) c.len-rows.result c.args.case.now.fits c.requires.order c.len-rows.ensures
    c.in_ok-ranked.ensures c.in_ok-known.ensures.size c.in_ok-known.ensures.marks c.in_ok-ends.ensures
