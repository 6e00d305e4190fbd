use Rattle.std.proofs.Common.{◌≡◌, drop}
use Rattle.emtp_case.specs.StepRecord.{latest}
use Rattle.emtp_worth.specs.Nearest.{with_switches}
use Rattle.emtp_worth.proofs.nearest.with_switches.Given as goal

-- with those that are left it is what all give
abbrev pub invariant-loop-at : goal.invariant-loop-at
invariant-loop-at g l =
    let r = latest (g.R.Run.records l.run) in
    with_switches l.case.parts l.node r l.at (drop l.at l.switches) l.best ≡ with_switches l.case.parts l.node r 0 l.case.parts.switches l.initial.best
