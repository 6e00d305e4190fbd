use Rattle.std.proofs.Common.{◌≡◌, ◌∙◌, sym, ap, ◌*◌, ◌^◌, ◌<◌, ◌*ℤ◌, suc, pos, unsigned_abs, to_z, of_z, arith}
use mir.Syntax.{w64}
use Rattle.std.proofs.lemmas.Int.{ints, to_z-of_z}
use Rattle.emtp_case.specs.Control.{bilinear}
use Rattle.emtp_fix.specs.Rounding.{near}
use Rattle.emtp_taccards.proofs.Coefficients.{leaves}
use Rattle.emtp_taccards.proofs.polynomial_card.stays.Goals as goal

pub returns-then-unsigned_abs-gt-LARGEST_ON_WAY : goal.returns-then-unsigned_abs-gt-LARGEST_ON_WAY
returns-then-unsigned_abs-gt-LARGEST_ON_WAY c =
    let dt : to_z w64 (of_z w64 c.args.dt) ≡ c.args.dt = to_z-of_z w64 c.args.dt c.ranges.dt in
    let x : to_z w64 (of_z w64 c.args.x) ≡ c.args.x = to_z-of_z w64 c.args.x c.ranges.x in
    let so_far = rw (dt, x) at c.loop-i.invariant.so_far in
    let step = rw dt at c.bilinear_step-p.ensures.value in
    let is : c.bilinear_step-p.result ≡ bilinear c.args.dt c.args.x (suc c.loop-i.i) = step ∙ ap (λ z. near (z *ℤ pos (2 * 10 ^ 12)) c.args.dt) so_far in
    let large : 8 * 10 ^ 25 < unsigned_abs c.bilinear_step-p.result = omega (arith, ints, c.bilinear_step-p.ensures.bound) in
    sym (leaves c.args.dt c.args.x c.loop-i.i c.args.times c.bilinear_step-p.result is large (omega arith))
