use Rattle.std.specs.Prelude.{◌≡◌, ◌≤◌, ◌∷◌, ◌++◌, drop, reverse, take}
use Rattle.emtp_switch.proofs.plan.rank.Given as goal

abbrev pub invariant-loop-row : goal.invariant-loop-row
invariant-loop-row l = l.ranked.items ≡ 0 ∷ take l.row l.order.nodes

abbrev pub invariant-loop-row-2 : goal.invariant-loop-row-2
invariant-loop-row-2 l = (l.fixed ≤ l.row) × (l.ranked.items ≡ (0 ∷ take l.fixed l.order.nodes) ++ reverse (drop l.row l.order.nodes))
