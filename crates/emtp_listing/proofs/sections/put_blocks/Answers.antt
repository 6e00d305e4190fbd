use Rattle.std.proofs.Common.{ap}
use Rattle.emtp_case.specs.declared.control.Block.{Block}
use Rattle.emtp_listing.specs.ControlLines.{block_lines}
use Rattle.emtp_listing.specs.Lines.{lines_text}
use Rattle.emtp_listing.proofs.Chains.{retext}
use Rattle.emtp_listing.proofs.Loops.{group-more}
use Rattle.emtp_listing.proofs.sections.put_blocks.Goals as goal

pub loop-block-preserved : goal.loop-block-preserved
loop-block-preserved c =
    group-more (block_lines c.args.parts.now.vars) c.args.parts.now.blocks c.as_slice-block-items.result.now c.loop-block.block-index _
    c.as_slice-block-items.ensures c.loop-block-test.true c.loop-block.invariant (retext (ap (λ (x : Block). lines_text (block_lines c.args.parts.now.vars x)) c.block-item.is) c.in_ok-put_block.ensures)
