use Rattle.std.proofs.Common.{FitsSigned, ◌≡◌, ◌≤◌, ◌^◌, ◌*◌, ◌*ℤ◌, pos, unsigned_abs, arith, rules}
use mir.Syntax.{w64, w128}
use Rattle.std.proofs.lemmas.Int.{ints, to_z-of_z}
use Rattle.emtp_fix.specs.Rounding.{near}
use Rattle.emtp_fix.proofs.Quotients.{near-part}
use Rattle.emtp_fix.proofs.Wide.{narrow_fits, narrow_is}
use Rattle.emtp_wave.proofs.table.part.Goals as goal

is_part : (c : goal.After-scaled) → c.scaled.result ≡ near (pos c.args.way *ℤ c.args.rise) (pos (10 ^ 18))
is_part c =
    let rise : FitsSigned w64 c.args.rise = c.ranges.rise in
    let rise' : FitsSigned w128 c.args.rise = search rules in
    let way' : FitsSigned w128 (pos c.args.way) = search rules in
    simp (to_z-of_z, c.from.ensures) at c.scaled.ensures.value

small : (c : goal.After-scaled) → unsigned_abs (near (pos c.args.way *ℤ c.args.rise) (pos (10 ^ 18))) ≤ 2 * 10 ^ 12
small c = omega (arith, (near-part (pos c.args.way) (pos (10 ^ 18)) c.args.rise (omega (arith, ints)) (omega (arith, ints, c.requires.way))).size, c.requires.rise)

pub overflow_cast-result : goal.overflow_cast-result
overflow_cast-result c = narrow_fits c.scaled.result _ (is_part c) (omega (arith, small c))

pub returns : goal.returns
returns c = narrow_is c.scaled.result _ (is_part c) (omega (arith, small c))
