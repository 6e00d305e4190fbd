use Rattle.emtp_case.specs.Control.{quotient_of}
use Rattle.std.proofs.Common.{◌≡◌, None}
use Rattle.emtp_walk.proofs.ControlCoefficients.{bad_below}
use Rattle.emtp_walk.proofs.coefficients.quotients_bad.Given as goal

abbrev pub invariant-loop-power : goal.invariant-loop-power
invariant-loop-power l = bad_below l.line (quotient_of l.dt l.card l.divisor) l.power ≡ None
