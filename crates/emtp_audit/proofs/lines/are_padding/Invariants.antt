use Rattle.std.proofs.Common.{◌≡◌, length}
use Rattle.std.specs.List.{list_all}
use Rattle.emtp_card.specs.Lines.{lines_of}
use Rattle.emtp_audit.specs.Rules.{is_padding}
use Rattle.emtp_audit.proofs.lines.are_padding.Given as goal

abbrev pub invariant-lines : goal.invariant-lines
invariant-lines l = list_all is_padding (lines_of l.text) ≡ list_all is_padding (lines_of l.rest)

abbrev pub decreases-lines : goal.decreases-lines
decreases-lines l = length l.rest
