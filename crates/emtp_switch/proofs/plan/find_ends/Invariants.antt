use Rattle.std.specs.Prelude.{◌≡◌, map}
use Rattle.std.specs.List.{range_with_len}
use Rattle.emtp_switch.specs.held.Tallies.{ends_of}
use Rattle.emtp_switch.proofs.plan.find_ends.Given as goal

abbrev pub invariant-loop-node : goal.invariant-loop-node
invariant-loop-node l = l.ends.items ≡ map (ends_of l.parts) (range_with_len 0 l.node)
