use Rattle.std.proofs.Common.{map, take}
use Rattle.emtp_listing.specs.Lines.{lines_text}
use Rattle.emtp_listing.specs.NetworkLines.{switch_line}
use Rattle.emtp_listing.specs.Puts.{Puts}
use Rattle.emtp_listing.proofs.sections.put_switches.Given as goal

abbrev pub invariant-loop-switch : goal.invariant-loop-switch
invariant-loop-switch l = Puts l.initial.out.items (lines_text (map (switch_line l.parts.nodes l.parts.vars) (take l.switch-index l.parts.switches))) l.out.items
