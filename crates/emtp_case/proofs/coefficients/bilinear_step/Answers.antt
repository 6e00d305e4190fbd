use Rattle.std.proofs.Common.{◌≡◌, ◌∙◌, ◌*◌, ◌^◌, ◌*ℤ◌, pos, to_z, of_z, arith}
use mir.Syntax.{w128, w64}
use Rattle.std.proofs.lemmas.Int.{ints, to_z-of_z}
use Rattle.emtp_case.proofs.coefficients.bilinear_step.Goals as goal

pub returns-clause-value : goal.returns-clause-value
returns-clause-value c =
    let p : to_z w128 (of_z w128 c.args.p) ≡ c.args.p = omega (arith, ints, c.requires.p) in
    let dt : to_z w64 (of_z w64 c.args.dt) ≡ c.args.dt = to_z-of_z w64 c.args.dt c.ranges.dt in
    let dt' : to_z w128 (of_z w128 c.args.dt) ≡ c.args.dt = omega (arith, ints, c.requires.dt.least, c.requires.dt.most) in
    let product : to_z w128 (of_z w128 (c.args.p *ℤ pos (2 * 10 ^ 12))) ≡ c.args.p *ℤ pos (2 * 10 ^ 12) = omega (arith, ints, c.requires.p) in
    let is = rw (p, dt, dt', product) at c.near.ensures.value in
    let small : to_z w128 (of_z w128 c.near.result) ≡ c.near.result = omega (arith, ints, c.near.ensures.bound, c.requires.p) in
    small ∙ is

pub returns-clause-bound : goal.returns-clause-bound
returns-clause-bound c = omega (arith, ints, c.near.ensures.bound, c.requires.p)
