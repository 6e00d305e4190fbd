use Rattle.std.proofs.Common.{length, arith}
use Rattle.emtp_elim.proofs.Writing.{cleared_all, cleared_more, written_extent}
use Rattle.emtp_elim.proofs.work_row.clear.Goals as goal

pub loop-j-init : goal.loop-j-init
loop-j-init c = written_extent c.args.work.now c.args.extent c.requires

pub loop-j-preserved : goal.loop-j-preserved
loop-j-preserved c = cleared_more c.loop-j.work c.loop-j.j c.args.extent.end c.loop-j.invariant c.loop-j-test.true

pub returns : goal.returns
returns c =
    cleared_all c.loop-j.work c.loop-j.j c.args.extent.end (length c.args.work.now) c.loop-j.invariant (omega (arith, c.loop-j-test.false)) c.loop-j.auto.work
