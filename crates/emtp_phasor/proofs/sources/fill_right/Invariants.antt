use Rattle.std.proofs.Common.{◌≡◌, ◌<◌, ℕ}
use Rattle.emtp_elim.specs.Matrix.{item}
use Rattle.emtp_phasor.specs.held.SteadyNetwork.{right_part}
use Rattle.emtp_phasor.proofs.sources.fill_right.Given as goal

abbrev pub invariant-loop-row : goal.invariant-loop-row
invariant-loop-row l = (k : ℕ) → k < l.row → item l.out k ≡ right_part l.network k
