use Rattle.std.proofs.Common.{◌≤◌, ◌*◌, ◌^◌, ◌∙◌, ap, ℤ, unsigned_abs, arith}
use mir.Syntax.{w128}
use Rattle.std.proofs.lemmas.Int.{ints, clamps, to_z-of_z}
use Rattle.emtp_fix.proofs.Wide.{narrow_is}
use Rattle.emtp_worth.specs.Nearest.{held}
use Rattle.emtp_worth.proofs.nearest.held.Goals as goal

small : (x : ℤ) → unsigned_abs (held x) ≤ 4 * 10 ^ 18
small x = omega (arith, ints, clamps)

pub returns : goal.returns
returns c = narrow_is c.clamp.result (held c.args.x) (c.clamp.ensures.value ∙ ap held (to_z-of_z w128 c.args.x c.ranges.x)) (small c.args.x)
