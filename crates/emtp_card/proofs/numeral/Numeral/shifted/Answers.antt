use Rattle.std.proofs.Common.{ap, ◌≤◌, ◌^◌, arith, mul-le-mul_left}
use Rattle.std.proofs.lemmas.List.{take_all}
use Rattle.emtp_fix.proofs.Digits.{power-above}
use Rattle.emtp_card.specs.Decimal.{number_of}
use Rattle.emtp_card.specs.held.Rounding.{digits_in}
use Rattle.emtp_card.proofs.numeral.Numeral.shifted.Goals as goal

pub returns-in-None : goal.returns-in-None
returns-in-None c = λ small.
    let digits = digits_in c.args.self.now in
    let all = ap number_of (take_all c.len.result digits (omega (arith, c.len.ensures))) in
    let power : 1 ≤ 10 ^ c.args.places = omega (arith, power-above c.args.places) in
    let times = mul-le-mul_left (number_of digits) power in
    c.in-None.ensures {u = tt} (omega (arith, small, all, times))
