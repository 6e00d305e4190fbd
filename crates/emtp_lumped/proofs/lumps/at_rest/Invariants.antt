use Rattle.std.specs.Prelude.{◌≡◌, map, take}
use Rattle.emtp_lumped.specs.held.Lumps.{rest_at}
use Rattle.emtp_lumped.proofs.lumps.at_rest.Given as goal

abbrev pub invariant-loop-branch : goal.invariant-loop-branch
invariant-loop-branch l = l.held.items ≡ map (rest_at l.case.parts.run.dt) (take l.branch-index l.case.parts.branches)
