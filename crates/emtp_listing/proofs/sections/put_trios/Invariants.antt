use Rattle.std.proofs.Common.{map, take}
use Rattle.emtp_listing.specs.Lines.{lines_text}
use Rattle.emtp_listing.specs.NetworkLines.{trio_line}
use Rattle.emtp_listing.specs.Puts.{Puts}
use Rattle.emtp_listing.proofs.sections.put_trios.Given as goal

abbrev pub invariant-loop-trio : goal.invariant-loop-trio
invariant-loop-trio l = Puts l.initial.out.items (lines_text (map trio_line (take l.trio-index l.parts.trios))) l.out.items
