use Rattle.std.proofs.Common.{◌+◌, ◌/◌, sym, arith}
use Rattle.std.proofs.Math.Nat.{div-mul-le_self, lt-div-mul-add}
use Rattle.emtp_fix.proofs.Nearest.{near_abs_is}
use Rattle.emtp_comtrade.proofs.data.raw_magnitude.Goals as goal

pub returns-then-is_quotient : goal.returns-then-is_quotient
returns-then-is_quotient c =
    let is = c.is_quotient.ensures c.if-is_quotient.true in
    sym (near_abs_is c.args.value c.args.multiplier c.guess-guess.result (omega (arith, is.0, is.1)) (omega (arith, is.0, is.1)))

pub returns-else-is_quotient : goal.returns-else-is_quotient
returns-else-is_quotient c =
    let raised = c.args.value + c.args.multiplier / 2 in
    let low = div-mul-le_self raised c.args.multiplier in
    let high = lt-div-mul-add {a = raised} {b = c.args.multiplier} c.requires.positive in
    sym (near_abs_is c.args.value c.args.multiplier (raised / c.args.multiplier) (omega (arith, low)) (omega (arith, high)))
