use Rattle.std.proofs.Common.{◌≡◌, ◌≤ℤ◌, pos, unsigned_abs, w64, to_z, of_z, arith}
use Rattle.std.proofs.lemmas.Int.{ints}
use Rattle.emtp_fix.specs.Rounding.{near}
use Rattle.emtp_fix.proofs.Nearest.{near-positive, unsigned_abs-near}
use Rattle.emtp_comtrade.proofs.data.raw_value_by.Goals as goal

pub with_sign_of-requires : goal.with_sign_of-requires
with_sign_of-requires c =
    let value : c.unsigned_abs.result ≡ unsigned_abs c.args.value = omega (arith, ints, c.unsigned_abs.ensures) in
    let multiplier : c.unsigned_abs-2.result ≡ unsigned_abs c.args.multiplier = omega (arith, ints, c.unsigned_abs-2.ensures) in
    let magnitude = rw (value, multiplier) at c.raw_magnitude-magnitude.ensures in
    omega (arith, magnitude, unsigned_abs-near c.args.value c.args.multiplier, c.requires.held)

-- the answer is the nearest quotient
nearest : (c : goal.After-with_sign_of) → c.with_sign_of.result ≡ near c.args.value c.args.multiplier
nearest c =
    let wide : to_z w64 (of_z w64 c.args.value) ≡ c.args.value = omega (arith, ints) in
    let value : c.unsigned_abs.result ≡ unsigned_abs c.args.value = omega (arith, ints, c.unsigned_abs.ensures) in
    let multiplier : c.unsigned_abs-2.result ≡ unsigned_abs c.args.multiplier = omega (arith, ints, c.unsigned_abs-2.ensures) in
    let magnitude = rw (value, multiplier) at c.raw_magnitude-magnitude.ensures in
    let above : pos 0 ≤ℤ c.args.multiplier = omega (arith, ints) in
    let is = rw wide at (c.with_sign_of.ensures (unsigned_abs c.args.multiplier) (rw wide magnitude)) in
    omega (arith, ints, is, near-positive c.args.value c.args.multiplier above)

pub returns-clause-value : goal.returns-clause-value
returns-clause-value c = let is = nearest c in omega (arith, ints, is, c.requires.held)

pub returns-clause-small : goal.returns-clause-small
returns-clause-small c = let is = nearest c in omega (arith, ints, is, c.requires.held)
