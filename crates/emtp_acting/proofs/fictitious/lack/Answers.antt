use Rattle.std.proofs.Common.{◌*ℤ◌, ◌-ℤ◌, ◌^◌, pos, arith}
use Rattle.std.proofs.lemmas.Int.{ints}
use Rattle.emtp_fix.proofs.Wide.{abs-mul-le, fits, product_through, through}
use Rattle.emtp_acting.proofs.fictitious.lack.Goals as goal

pub overflow_mul-result : goal.overflow_mul-result
overflow_mul-result c =
    let small = abs-mul-le c.args.g c.args.z (10 ^ 17) (10 ^ 15) c.requires.g c.requires.z in
    rw (through c.args.g (omega (arith, c.requires.g)), through c.args.z (omega (arith, c.requires.z))) (fits (c.args.g *ℤ c.args.z) (omega (arith, small)))

pub overflow_sub-result : goal.overflow_sub-result
overflow_sub-result c =
    let small = abs-mul-le c.args.g c.args.z (10 ^ 17) (10 ^ 15) c.requires.g c.requires.z in
    rw (product_through c.args.g c.args.z (10 ^ 17) (10 ^ 15) c.requires.g c.requires.z (omega arith) (omega arith) (omega arith)) (fits (pos (10 ^ 18) -ℤ c.args.g *ℤ c.args.z) (omega (arith, ints, small)))

pub returns : goal.returns
returns c =
    let small = abs-mul-le c.args.g c.args.z (10 ^ 17) (10 ^ 15) c.requires.g c.requires.z in
    rw (product_through c.args.g c.args.z (10 ^ 17) (10 ^ 15) c.requires.g c.requires.z (omega arith) (omega arith) (omega arith)) (through (pos (10 ^ 18) -ℤ c.args.g *ℤ c.args.z) (omega (arith, ints, small)))
