use Rattle.std.proofs.Common.{◌≡◌, ◌<◌, ◌≤◌, ◌^◌, ℕ, pos, nat_lt, false, unsigned_abs}
use Rattle.emtp_phasor.specs.Steady.{greatest_below, row_residual}
use Rattle.emtp_phasor.proofs.flow.judge.Given as goal

abbrev pub invariant-loop-i : goal.invariant-loop-i
invariant-loop-i l = record {
  below : (k : ℕ) → k < l.i → nat_lt (unsigned_abs l.network.case.now.parts.run.tolerance) (row_residual l.network.case.now.parts l.network.ports.now l.volts k) ≡ false;
  greatest_is : l.greatest ≡ pos (greatest_below l.i (row_residual l.network.case.now.parts l.network.ports.now l.volts));
  small : unsigned_abs l.greatest ≤ 10 ^ 30;
}
