use Rattle.emtp_comtrade.specs.held.Record.{AreGreatest}
use Rattle.emtp_comtrade.proofs.multipliers.greatest_magnitudes.Given as goal

abbrev pub invariant-loop-sample : goal.invariant-loop-sample
invariant-loop-sample l = AreGreatest l.samples.rows l.samples.channels l.sample 0 l.magnitudes
