use Rattle.std.proofs.Common.{◌≡◌, ◌+◌, ◌++◌, drop}
use Rattle.emtp_causes.specs.KindText.{kinds_text}
use Rattle.emtp_causes.proofs.kind_text.put_kinds.Given as goal

-- the lines so far and those that are left are all lines
abbrev pub invariant-loop-at : goal.invariant-loop-at
invariant-loop-at l = l.out.items ++ kinds_text l.count (l.at + 1) (drop l.at l.readings) ≡ l.initial.out.items ++ kinds_text l.count 1 l.readings
