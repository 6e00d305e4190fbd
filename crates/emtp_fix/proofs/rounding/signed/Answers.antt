use Rattle.std.proofs.Common.{◌≡◌, ◌<ℤ◌, ◌≤ℤ◌, pos, unsigned_abs, to_z, of_z, arith}
use mir.Syntax.{w128}
use Rattle.std.proofs.lemmas.Int.{ints}
use Rattle.emtp_fix.proofs.Nearest.{near-turned, near-positive}
use Rattle.emtp_fix.proofs.rounding.signed.Goals as goal

pub returns-then-b-lt0 : goal.returns-then-b-lt0
returns-then-b-lt0 c =
    let wide_a : to_z w128 (of_z w128 c.args.a) ≡ c.args.a = omega (arith, ints) in
    let wide_b : to_z w128 (of_z w128 c.args.b) ≡ c.args.b = omega (arith, ints) in
    let below : c.args.b <ℤ pos 0 = omega (arith, ints) in
    let is = rw (wide_a, wide_b) at (c.with_sign_of.ensures.value (unsigned_abs (to_z w128 (of_z w128 c.args.b))) (rw (wide_a, wide_b) c.requires.magnitude)) in
    omega (arith, ints, is, near-turned c.args.a c.args.b below)

pub returns-else-b-lt0 : goal.returns-else-b-lt0
returns-else-b-lt0 c =
    let wide_a : to_z w128 (of_z w128 c.args.a) ≡ c.args.a = omega (arith, ints) in
    let wide_b : to_z w128 (of_z w128 c.args.b) ≡ c.args.b = omega (arith, ints) in
    let above : pos 0 ≤ℤ c.args.b = omega (arith, ints) in
    let is = rw (wide_a, wide_b) at (c.with_sign_of-else-b-lt0.ensures.value (unsigned_abs (to_z w128 (of_z w128 c.args.b))) (rw (wide_a, wide_b) c.requires.magnitude)) in
    omega (arith, ints, is, near-positive c.args.a c.args.b above)
