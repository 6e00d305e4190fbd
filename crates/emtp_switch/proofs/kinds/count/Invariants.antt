use Rattle.std.proofs.Common.{◌≡◌, ℕ, ◌<◌, length, take}
use Rattle.emtp_switch.specs.held.Tallies.{tally_at, tally_of}
use Rattle.emtp_switch.proofs.kinds.count.Given as goal

abbrev pub invariant-loop-row : goal.invariant-loop-row
invariant-loop-row l = (k : ℕ) → k < length l.tallies → tally_at l.tallies k ≡ tally_of (take l.row l.order.nodes) l.labels l.ends k
