use Rattle.std.proofs.Common.{◌≡◌}
use Rattle.emtp_case.specs.Control.{power_of}
use Rattle.emtp_case.specs.Sums.{sum_below}
use Rattle.emtp_case.proofs.coefficients.coefficient_divisor.Given as goal

abbrev pub invariant-loop-power : goal.invariant-loop-power
invariant-loop-power l = l.sum ≡ sum_below l.power (power_of l.dt l.bottom)
