use Rattle.emtp_comtrade.specs.held.Record.{AreGreatest}
use Rattle.emtp_comtrade.proofs.multipliers.raise_magnitudes.Given as goal

abbrev pub invariant-loop-place : goal.invariant-loop-place
invariant-loop-place l = AreGreatest l.samples.rows l.samples.channels l.sample l.place l.magnitudes
