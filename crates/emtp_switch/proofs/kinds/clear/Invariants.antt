use Rattle.std.proofs.Common.{◌≡◌, ℕ, ◌<◌}
use Rattle.emtp_switch.specs.held.Tallies.{no_tally, tally_at}
use Rattle.emtp_switch.proofs.kinds.clear.Given as goal

abbrev pub invariant-loop-tally : goal.invariant-loop-tally
invariant-loop-tally l = (k : ℕ) → k < l.tally-index → tally_at l.tallies k ≡ no_tally
