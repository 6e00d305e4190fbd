use Rattle.std.proofs.Common.{map, take}
use Rattle.emtp_listing.specs.Lines.{lines_text}
use Rattle.emtp_listing.specs.ControlLines.{tacs_source_line}
use Rattle.emtp_listing.specs.Puts.{Puts}
use Rattle.emtp_listing.proofs.sections.put_tacs_sources.Given as goal

abbrev pub invariant-loop-source : goal.invariant-loop-source
invariant-loop-source l = Puts l.initial.out.items (lines_text (map (tacs_source_line l.parts.nodes l.parts.vars) (take l.source-index l.parts.tacs_sources))) l.out.items
