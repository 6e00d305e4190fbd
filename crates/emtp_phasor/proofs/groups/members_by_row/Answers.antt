use Rattle.std.proofs.Common.{◌∙◌, arith}
use Rattle.emtp_phasor.proofs.GroupLists.{groups_all, groups_more}
use Rattle.emtp_phasor.proofs.groups.members_by_row.Goals as goal

pub loop-row-preserved : goal.loop-row-preserved
loop-row-preserved c =
    groups_more c.args.kinds.now c.loop-row.row c.from_vec.result c.loop-row.rows.items c.push.new.self.items (c.from_vec.ensures ∙ c.in_ok-members.ensures) c.in_ok-push.ensures.items c.loop-row.invariant

pub returns : goal.returns
returns c = groups_all c.args.kinds.now c.loop-row.row c.loop-row.rows.items (omega (arith, c.loop-row.auto.row-end, c.loop-row-test.false)) c.loop-row.invariant
