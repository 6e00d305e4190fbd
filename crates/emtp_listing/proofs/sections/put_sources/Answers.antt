use Rattle.emtp_listing.specs.NetworkLines.{source_line}
use Rattle.emtp_listing.proofs.Loops.{line-more}
use Rattle.emtp_listing.proofs.sections.put_sources.Goals as goal

pub loop-source-preserved : goal.loop-source-preserved
loop-source-preserved c =
    line-more (source_line c.args.parts.now.nodes c.args.parts.now.vars) c.args.parts.now.sources c.as_slice-source-items.result.now c.loop-source.source-index _
    c.as_slice-source-items.ensures c.loop-source-test.true c.loop-source.invariant c.in_ok-put_source.ensures c.in_ok-put_end.ensures
