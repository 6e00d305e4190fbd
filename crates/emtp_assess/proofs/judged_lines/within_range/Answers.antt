use Rattle.std.proofs.Common.{◌≤◌, ◌*◌, ◌^◌, ◌∙◌, ap, ℤ, unsigned_abs, arith}
use mir.Syntax.{w128}
use Rattle.std.proofs.lemmas.Int.{ints, clamps, to_z-of_z}
use Rattle.emtp_fix.proofs.Wide.{narrow_is}
use Rattle.emtp_machine.specs.Channels.{within_range}
use Rattle.emtp_assess.proofs.judged_lines.within_range.Goals as goal

small : (x : ℤ) → unsigned_abs (within_range x) ≤ 4 * 10 ^ 18
small x = omega (arith, ints, clamps)

pub returns : goal.returns
returns c = narrow_is c.clamp.result (within_range c.args.x) (c.clamp.ensures.value ∙ ap within_range (to_z-of_z w128 c.args.x c.ranges.x)) (small c.args.x)
