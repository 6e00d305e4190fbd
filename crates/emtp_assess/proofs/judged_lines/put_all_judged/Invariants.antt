use Rattle.std.proofs.Common.{◌≡◌, ◌++◌, drop}
use Rattle.emtp_assess.specs.JudgedLines.{judged_lines}
use Rattle.emtp_assess.proofs.judged_lines.put_all_judged.Given as goal

-- the lines so far and those of the branches that are left are all lines
abbrev pub invariant-loop-j : goal.invariant-loop-j
invariant-loop-j l = l.text.items ++ judged_lines l.nodes (drop l.j-index l.judged) ≡ l.initial.text.items ++ judged_lines l.nodes l.judged
