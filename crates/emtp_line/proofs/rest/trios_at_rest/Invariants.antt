use Rattle.std.specs.Prelude.{◌≡◌, map, take}
use Rattle.emtp_line.specs.held.Held.{trio_at_rest}
use Rattle.emtp_line.proofs.rest.trios_at_rest.Given as goal

abbrev pub invariant-loop-trio : goal.invariant-loop-trio
invariant-loop-trio l = l.trios.items ≡ map (trio_at_rest l.case.parts.run.dt) (take l.trio-index l.case.parts.trios)
