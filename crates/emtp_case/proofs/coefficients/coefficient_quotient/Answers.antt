use Rattle.std.proofs.Common.{◌≡◌, ◌∙◌, ap, ◌^◌, ◌*ℤ◌, ℤ, pos, to_z, of_z, arith}
use mir.Syntax.{w64, w128}
use Rattle.std.specs.Prelude.{slice_index_or}
use Rattle.std.proofs.lemmas.Int.{ints, to_z-of_z}
use Rattle.emtp_fix.specs.Rounding.{near}
use Rattle.emtp_case.proofs.coefficients.coefficient_quotient.Goals as goal

pub returns-clause-value : goal.returns-clause-value
returns-clause-value c =
    let dt : to_z w64 (of_z w64 c.args.dt) ≡ c.args.dt = to_z-of_z w64 c.args.dt c.ranges.dt in
    let x : to_z w64 (of_z w64 (slice_index_or c.args.card.now c.args.power (pos 0))) ≡ slice_index_or c.args.card.now c.args.power (pos 0) = to_z-of_z w64 _ (search arith) in
    let d : to_z w128 (of_z w128 c.args.divisor) ≡ c.args.divisor = omega (arith, ints, c.requires.divisor) in
    let product : to_z w128 (of_z w128 (c.bilinear.result *ℤ pos (10 ^ 12))) ≡ c.bilinear.result *ℤ pos (10 ^ 12) = omega (arith, ints, c.bilinear.ensures.small) in
    let t : to_z w128 (of_z w128 c.bilinear.result) ≡ c.bilinear.result = omega (arith, ints, c.bilinear.ensures.small) in
    let value = rw (dt, x) at c.bilinear.ensures.value in
    let is = rw (t, d, product) at c.near.ensures.value in
    let small : to_z w128 (of_z w128 c.near.result) ≡ c.near.result = omega (arith, ints, c.near.ensures.bound, c.bilinear.ensures.small) in
    small ∙ is ∙ ap (λ (z : ℤ). near (z *ℤ pos (10 ^ 12)) c.args.divisor) value
