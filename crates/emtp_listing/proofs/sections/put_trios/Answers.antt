use Rattle.emtp_listing.specs.NetworkLines.{trio_line}
use Rattle.emtp_listing.proofs.Loops.{line-more}
use Rattle.emtp_listing.proofs.sections.put_trios.Goals as goal

pub loop-trio-preserved : goal.loop-trio-preserved
loop-trio-preserved c =
    line-more trio_line c.args.parts.now.trios c.as_slice-trio-items.result.now c.loop-trio.trio-index _
    c.as_slice-trio-items.ensures c.loop-trio-test.true c.loop-trio.invariant c.in_ok-put_trio.ensures c.in_ok-put_end.ensures
