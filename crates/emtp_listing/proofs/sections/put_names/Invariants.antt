use Rattle.std.proofs.Common.{◌≡◌, ◌+◌, take}
use Rattle.emtp_listing.specs.Lines.{lines_text, numbered}
use Rattle.emtp_listing.specs.Listing.{name_line}
use Rattle.emtp_listing.specs.Puts.{Puts}
use Rattle.emtp_listing.proofs.sections.put_names.Given as goal

abbrev pub invariant-loop-name : goal.invariant-loop-name
invariant-loop-name l = record {
  number : l.number ≡ l.name-index + l.first;
  text : Puts l.initial.out.items (lines_text (numbered (name_line l.word) l.first (take l.name-index l.names))) l.out.items;
}
