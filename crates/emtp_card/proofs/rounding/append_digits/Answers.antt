use Rattle.std.proofs.Common.{◌+◌, arith}
use Rattle.emtp_card.proofs.Digits.{with_digits_more, front-le}
use Rattle.emtp_card.proofs.rounding.append_digits.Goals as goal

pub returns-then-number-gt-MOST : goal.returns-then-number-gt-MOST
returns-then-number-gt-MOST c = λ small.
    let more = with_digits_more c.args.start c.args.digits.now c.loop-digit.digit-index c.loop-digit-test.true in
    omega (arith, small, more, front-le c.args.start c.args.digits.now (c.loop-digit.digit-index + 1))

pub loop-digit-preserved : goal.loop-digit-preserved
loop-digit-preserved c =
    let more = with_digits_more c.args.start c.args.digits.now c.loop-digit.digit-index c.loop-digit-test.true in
    record { written = omega (arith, more); small = c.if-number-gt-MOST.false }
