use Rattle.std.proofs.Common.{◌≡◌, ◌-◌}
use Rattle.emtp_comtrade.specs.Multiplier.{multiplier_from, multiplier_of}
use Rattle.emtp_comtrade.proofs.multiplier.least_multiplier.Given as goal

abbrev pub invariant-loop-power : goal.invariant-loop-power
invariant-loop-power l = multiplier_of l.greatest ≡ multiplier_from (15 - l.power) l.power l.greatest
