use Rattle.std.proofs.Common.{◌≡◌, take}
use Rattle.emtp_assess.specs.BranchWarnings.{branch_warnings}
use Rattle.emtp_assess.proofs.branch_warnings.branch_warnings.Given as goal

-- those so far
abbrev pub invariant-loop-warning : goal.invariant-loop-warning
invariant-loop-warning l = l.found.items ≡ branch_warnings (take l.warning-index l.warning-items)
