use Rattle.emtp_case.specs.Control.{quotient_of}
use Rattle.std.proofs.Common.{◌≡◌}
use Rattle.emtp_case.specs.Sums.{sum_below}
use Rattle.emtp_walk.proofs.coefficients.numerator_sum.Given as goal

abbrev pub invariant-loop-power : goal.invariant-loop-power
invariant-loop-power l = l.sum ≡ sum_below l.power (quotient_of l.dt l.top l.divisor)
