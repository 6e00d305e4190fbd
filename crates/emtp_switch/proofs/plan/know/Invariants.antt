use Rattle.std.specs.Prelude.{◌≡◌, ◌≤◌, ◌∷◌, ◌+◌, length, take, ℕ}
use Rattle.emtp_switch.specs.Groups.{alone, knows}
use Rattle.emtp_switch.specs.held.Tree.{is_reached}
use Rattle.emtp_switch.proofs.plan.know.Given as goal

abbrev pub invariant-loop-row : goal.invariant-loop-row
invariant-loop-row l = (length l.known.items ≡ l.rows + 1) × ((x : ℕ) → x ≤ l.rows → is_reached l.known.items x ≡ knows (0 ∷ take l.row l.order.nodes) (alone l.rows) x)
