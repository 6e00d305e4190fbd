use Rattle.std.proofs.Common.{◌≡◌, ◌≤◌, ◌^◌, ap, unsigned_abs, ◌*ℤ◌, FitsSigned, arith, rules}
use mir.Syntax.{w64, w128}
use Rattle.std.proofs.lemmas.Int.{ints, to_z-of_z}
use Rattle.emtp_fix.specs.Rounding.{near}
use Rattle.emtp_fix.specs.declared.limit.TheConstants.{PICO}
use Rattle.emtp_line.proofs.Bounds.{share_small}
use Rattle.emtp_line.proofs.mode.share.Goals as goal

is_share : (c : goal.After-scaled) → c.scaled.result ≡ near (c.args.part *ℤ PICO) c.args.z
is_share c =
    let p : FitsSigned w64 c.args.part = c.ranges.part in
    let z : FitsSigned w64 c.args.z = c.ranges.z in
    let p' : FitsSigned w128 c.args.part = search rules in
    let z' : FitsSigned w128 c.args.z = search rules in
    simp to_z-of_z at c.scaled.ensures.value

small : (c : goal.After-scaled) → unsigned_abs c.scaled.result ≤ 10 ^ 12
small c = omega (arith, ap unsigned_abs (is_share c), share_small c.args.part c.args.z c.requires.part)

pub overflow_cast-result : goal.overflow_cast-result
overflow_cast-result c = let s = small c in omega (arith, ints, s)

pub returns-clause-value : goal.returns-clause-value
returns-clause-value c = let s = small c in let e = is_share c in omega (arith, ints, s, e)

pub returns-clause-bound : goal.returns-clause-bound
returns-clause-bound c = let s = small c in omega (arith, ints, s)
