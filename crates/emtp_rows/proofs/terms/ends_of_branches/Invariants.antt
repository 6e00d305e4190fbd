use Rattle.std.proofs.Common.{◌≡◌, map, take}
use Rattle.emtp_rows.specs.held.Terms.{end_rows}
use Rattle.emtp_rows.proofs.terms.ends_of_branches.Given as goal

abbrev pub invariant-loop-branch : goal.invariant-loop-branch
invariant-loop-branch l = l.ends.items ≡ map (end_rows l.case.parts) (take l.branch-index l.branch-items)
