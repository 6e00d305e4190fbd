use Rattle.std.proofs.Common.{◌≡◌, ◌*◌, ◌/◌, ◌%◌, ◌^◌, ◌<◌, arith}
use Rattle.std.proofs.Math.Nat.{div-mul-le_self, lt-div-mul-add}
use Rattle.std.proofs.lemmas.Nat.{pow_pos}
use Rattle.emtp_fix.proofs.Pivots.{guess_low, guess_high}
use Rattle.emtp_fix.proofs.pivot.Pivot.part.Goals as goal

pub returns-clause-value : goal.returns-clause-value
returns-clause-value c = λ small.
    let y = c.args.y in
    let p = c.args.self.value in
    let w = c.args.self.word in
    let u = 2 ^ c.args.self.shift in
    let top = y / u in
    let guess = top * w / 73786976294838206464 in
    let some : 0 < u = pow_pos c.args.self.shift in
    let same : top % 18446744073709551616 ≡ top = omega (arith, small) in
    let low = guess_low y p u w top guess (div-mul-le_self y u) c.args.self.low (div-mul-le_self (top * w) 73786976294838206464) in
    let high = guess_high y p u w top guess (lt-div-mul-add {a = y} {b = u} some) c.args.self.high (lt-div-mul-add {a = top * w} {b = 73786976294838206464} (omega arith)) small c.args.self.quarter in
    c.one_more.ensures.value (rw (c.from.ensures, c.from-2.ensures, same) low) (rw (c.from.ensures, c.from-2.ensures, same) high)
