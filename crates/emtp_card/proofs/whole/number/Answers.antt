use Rattle.std.proofs.Common.{◌≡◌, ◌+◌, ◌*◌, ◌^◌, ◌<◌, ◌≤◌, ◌∙◌, ℕ, ap, arith, add-one, pow-suc}
use Rattle.std.proofs.Math.Nat.{pow-le-pow_right}
use Rattle.std.specs.Char.{IsAsciiDigit}
use Rattle.std.proofs.lemmas.List.Elements.{All-get_or}
use Rattle.emtp_card.proofs.Digits.{with_digits_more}
use Rattle.emtp_card.proofs.whole.number.Goals as goal

-- a number of no more digits than so many
below : (digits most n : ℕ) → digits ≤ most → n < 10 ^ digits → n < 10 ^ most
below digits most n few less =
    let powers : 10 ^ digits ≤ 10 ^ most = pow-le-pow_right {n = 10} (omega arith) few in
    omega (arith, powers)

pub overflow_mul-number : goal.overflow_mul-number
overflow_mul-number c =
    omega (arith, below c.loop-digit.digit-index 17 c.loop-digit.number (omega (arith, c.loop-digit-test.true)) c.loop-digit.invariant.small)

pub overflow_add-number : goal.overflow_add-number
overflow_add-number c =
    omega (arith, below c.loop-digit.digit-index 17 c.loop-digit.number (omega (arith, c.loop-digit-test.true)) c.loop-digit.invariant.small)

pub loop-digit-preserved : goal.loop-digit-preserved
loop-digit-preserved c =
    let i = c.loop-digit.digit-index in
    let more = with_digits_more 0 c.args.digits.now i c.loop-digit-test.true in
    let digit = All-get_or IsAsciiDigit c.args.digits.now i 0 c.loop-digit-test.true c.requires.digits in
    let power : 10 ^ (i + 1) ≡ 10 ^ i * 10 = ap (λ (k : ℕ). 10 ^ k) (add-one i) ∙ pow-suc 10 i in
    record { written = omega (arith, more, c.loop-digit.invariant.written); small = omega (arith, power, c.loop-digit.invariant.small, digit) }

pub returns-clause-small : goal.returns-clause-small
returns-clause-small c = below c.loop-digit.digit-index c.args.most c.loop-digit.number (omega arith) c.loop-digit.invariant.small

pub returns-clause-fits : goal.returns-clause-fits
returns-clause-fits c = below c.loop-digit.digit-index 18 c.loop-digit.number (omega arith) c.loop-digit.invariant.small
