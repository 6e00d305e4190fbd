use Rattle.std.specs.Prelude.{◌≡◌, map, take}
use Rattle.emtp_devices.specs.held.Held.{depth_of, held_at_rest}
use Rattle.emtp_devices.proofs.held.all_at_rest.Given as goal

abbrev pub invariant-loop-extra : goal.invariant-loop-extra
invariant-loop-extra l = l.held.items ≡ map (λ e. held_at_rest (depth_of l.case.parts.run.dt e)) (take l.extra-index l.case.parts.extras)
