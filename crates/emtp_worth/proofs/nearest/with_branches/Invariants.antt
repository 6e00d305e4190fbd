use Rattle.std.proofs.Common.{◌≡◌, drop}
use Rattle.emtp_case.specs.StepRecord.{latest}
use Rattle.emtp_worth.specs.Nearest.{with_branches}
use Rattle.emtp_worth.proofs.nearest.with_branches.Given as goal

-- with those that are left it is what all give
abbrev pub invariant-loop-at : goal.invariant-loop-at
invariant-loop-at g l =
    let r = latest (g.R.Run.records l.run) in
    with_branches l.case.parts l.node r l.at (drop l.at l.branches) l.best ≡ with_branches l.case.parts l.node r 0 l.case.parts.branches l.initial.best
