use Rattle.emtp_comtrade.proofs.GreatestMagnitudes.{greatest-none}
use Rattle.emtp_comtrade.proofs.multipliers.greatest_magnitudes.Goals as goal

pub loop-sample-init : goal.loop-sample-init
loop-sample-init c = greatest-none c.args.samples.now.rows c.args.samples.now.channels c.requires
