use Rattle.std.proofs.Common.{take}
use Rattle.emtp_listing.specs.Lines.{grouped, lines_text}
use Rattle.emtp_listing.specs.ControlLines.{block_lines}
use Rattle.emtp_listing.specs.Puts.{Puts}
use Rattle.emtp_listing.proofs.sections.put_blocks.Given as goal

abbrev pub invariant-loop-block : goal.invariant-loop-block
invariant-loop-block l = Puts l.initial.out.items (lines_text (grouped (block_lines l.parts.vars) (take l.block-index l.parts.blocks))) l.out.items
