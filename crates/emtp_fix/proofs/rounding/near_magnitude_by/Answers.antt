use Rattle.std.proofs.Common.{sym, arith}
use Rattle.emtp_fix.proofs.Nearest.{near_abs_is}
use Rattle.emtp_fix.proofs.rounding.near_magnitude_by.Goals as goal

pub returns-then-is_quotient-clause-value : goal.returns-then-is_quotient-clause-value
returns-then-is_quotient-clause-value c =
    let is = c.is_quotient.ensures c.if-is_quotient.true in
    sym (near_abs_is c.args.a c.args.b c.from-guess.result (omega (arith, is.0, is.1)) (omega (arith, is.0, is.1)))
