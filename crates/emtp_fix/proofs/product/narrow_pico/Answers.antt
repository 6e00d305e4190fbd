use Rattle.std.proofs.Common.{◌≡◌, ◌^◌, unsigned_abs, to_z, of_z, arith}
use mir.Syntax.{w128}
use Rattle.std.proofs.lemmas.Int.{ints}
use Rattle.emtp_fix.specs.declared.limit.TheConstants.{PICO}
use Rattle.emtp_fix.proofs.Nearest.{near_abs-even, unsigned_abs-near}
use Rattle.emtp_fix.proofs.product.narrow_pico.Goals as goal

pub narrow_with_sign_of-requires : goal.narrow_with_sign_of-requires
narrow_with_sign_of-requires c = omega (arith, c.in-Some.ensures.small)

pub returns-in-None-clause-large : goal.returns-in-None-clause-large
returns-in-None-clause-large c =
    let wide : to_z w128 (of_z w128 c.args.a) ≡ c.args.a = omega (arith, ints) in
    omega (arith, ints, c.in-None.ensures.large, unsigned_abs-near c.args.a PICO, near_abs-even (unsigned_abs c.args.a) 500000000000 (omega arith))

pub returns-in-Some-clause-value : goal.returns-in-Some-clause-value
returns-in-Some-clause-value c =
    let wide : to_z w128 (of_z w128 c.args.a) ≡ c.args.a = omega (arith, ints) in
    let is = c.narrow_with_sign_of.ensures.value (10 ^ 12) (omega (arith, c.in-Some.ensures.value, near_abs-even (unsigned_abs (to_z w128 (of_z w128 c.args.a))) 500000000000 (omega arith))) in
    omega (arith, ints, rw wide at is)

pub returns-in-Some-clause-small : goal.returns-in-Some-clause-small
returns-in-Some-clause-small c = omega (arith, ints, c.narrow_with_sign_of.ensures.bound, c.in-Some.ensures.small)
