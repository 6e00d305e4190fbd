use Rattle.std.specs.Prelude.{◌≡◌, map, take}
use Rattle.emtp_line.specs.held.Lines.{rest_at}
use Rattle.emtp_line.proofs.rest.lines_at_rest.Given as goal

abbrev pub invariant-loop-branch : goal.invariant-loop-branch
invariant-loop-branch l = l.lines.items ≡ map (rest_at l.case.parts.run.dt) (take l.branch-index l.case.parts.branches)
