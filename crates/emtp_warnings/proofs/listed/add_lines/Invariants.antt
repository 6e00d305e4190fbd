use Rattle.std.proofs.Common.{◌≡◌, ◌+◌, ◌++◌, drop}
use Rattle.emtp_warnings.specs.Warnings.{warnings_from}
use Rattle.emtp_warnings.proofs.listed.add_lines.Given as goal

-- the warnings so far and those of the lines that are left are all warnings
abbrev pub invariant-loop-at : goal.invariant-loop-at
invariant-loop-at l =
    l.out.items ++ warnings_from (l.at + 1) (drop l.at l.readings) (drop l.at l.cards) l.rest ≡ l.initial.out.items ++ warnings_from 1 l.readings l.cards l.fn.records
