use Rattle.std.proofs.Common.{◌≡◌, ◌*ℤ◌, pos, to_z, of_z, arith}
use mir.Syntax.{w64}
use Rattle.std.proofs.lemmas.Int.{ints}
use Rattle.emtp_elim.specs.Matrix.{item}
use Rattle.emtp_fix.specs.Rounding.{near}
use Rattle.emtp_fix.proofs.Wide.{through_64}
use Rattle.emtp_blocks.proofs.moving.error.Goals as goal

pub returns-clause-value : goal.returns-clause-value
returns-clause-value c =
    let law = c.args.law.now in
    let u : to_z w64 (of_z w64 c.args.u) ≡ c.args.u = through_64 c.args.u c.requires.u in
    let x : to_z w64 (of_z w64 c.args.x) ≡ c.args.x = through_64 c.args.x c.requires.x in
    let n : to_z w64 (of_z w64 (item law.numerators c.args.j)) ≡ item law.numerators c.args.j = through_64 _ (c.requires.law.numerators_small c.args.j) in
    let d : to_z w64 (of_z w64 (item law.denominators c.args.j)) ≡ item law.denominators c.args.j = through_64 _ (c.requires.law.denominators_small c.args.j) in
    let first : c.product.result ≡ near (item law.numerators c.args.j *ℤ c.args.u) (pos 1000) = rw (n, u) at c.product.ensures.value in
    let second : c.product-2.result ≡ near (item law.denominators c.args.j *ℤ c.args.x) (pos 1000) = rw (d, x) at c.product-2.ensures.value in
    omega (arith, ints, first, second, c.product.ensures.bound, c.product-2.ensures.bound)
