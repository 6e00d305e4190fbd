use Rattle.std.proofs.Common.{◌≡◌, ◌+◌, take}
use Rattle.emtp_listing.specs.Lines.{lines_text, numbered}
use Rattle.emtp_listing.specs.NetworkLines.{segment_line}
use Rattle.emtp_listing.specs.Puts.{Puts}
use Rattle.emtp_listing.proofs.branch.put_segments.Given as goal

abbrev pub invariant-loop-point : goal.invariant-loop-point
invariant-loop-point l = record {
  number : l.number ≡ l.point-index + 1;
  text : Puts l.initial.out.items (lines_text (numbered (segment_line l.reactor) 1 (take l.point-index l.points))) l.out.items;
}
