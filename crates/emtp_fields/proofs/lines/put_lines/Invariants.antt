use Rattle.std.proofs.Common.{◌≡◌, ◌++◌, drop}
use Rattle.emtp_fields.specs.Lines.{all_fields}
use Rattle.emtp_fields.proofs.lines.put_lines.Given as goal

-- the lines so far and those that are left are all lines
abbrev pub invariant-loop-at : goal.invariant-loop-at
invariant-loop-at l = l.out.items ++ all_fields l.at (drop l.at l.readings) l.cards ≡ l.initial.out.items ++ all_fields 0 l.readings l.cards
