use Rattle.std.proofs.Common.{◌≡◌, ◌+◌, ◌++◌, drop}
use Rattle.emtp_causes.specs.Sections.{sections_from, sections_text}
use Rattle.emtp_causes.proofs.sections.put_sections.Given as goal

-- the lines so far and those of the lines that are left are all lines
abbrev pub invariant-loop-at : goal.invariant-loop-at
invariant-loop-at l = l.out.items ++ sections_from l.section (l.at + 1) (drop l.at l.readings) (drop l.at l.cards) ≡ l.initial.out.items ++ sections_text l.readings l.cards
