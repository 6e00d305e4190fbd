use Rattle.std.proofs.Common.{take}
use Rattle.emtp_listing.specs.Lines.{grouped, lines_text}
use Rattle.emtp_listing.specs.ControlLines.{extra_lines}
use Rattle.emtp_listing.specs.Puts.{Puts}
use Rattle.emtp_listing.proofs.sections.put_extras.Given as goal

abbrev pub invariant-loop-extra : goal.invariant-loop-extra
invariant-loop-extra l = Puts l.initial.out.items (lines_text (grouped (extra_lines l.parts.vars l.parts.points) (take l.extra-index l.parts.extras))) l.out.items
