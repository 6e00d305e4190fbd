use Rattle.std.proofs.Common.{FitsSigned, ap, ◌^◌, ◌-ℤ◌, pos, unsigned_abs, arith, rules}
use mir.Syntax.{w64}
use Rattle.std.proofs.lemmas.Int.{ints, to_z-of_z, fits_signed_from_abs}
use Rattle.emtp_fix.proofs.Quotients.{between-within}
use Rattle.emtp_wave.proofs.table.between.Goals as goal

pub overflow_add-result : goal.overflow_add-result
overflow_add-result c =
    let a : FitsSigned w64 c.args.a = c.ranges.a in
    let b : FitsSigned w64 c.args.b = c.ranges.b in
    let d : FitsSigned w64 (c.args.b -ℤ c.args.a) = search rules in
    let r : FitsSigned w64 c.part.result = search rules in
    let is = simp to_z-of_z at c.part.ensures in
    let small = between-within (pos c.args.way) (pos (10 ^ 18)) c.args.a c.args.b (10 ^ 12) (omega (arith, ints)) (omega (arith, ints, c.requires.way)) c.requires.a c.requires.b in
    fits_signed_from_abs w64 _ (omega (arith, ints, is, small))

pub returns-clause-value : goal.returns-clause-value
returns-clause-value c =
    let a : FitsSigned w64 c.args.a = c.ranges.a in
    let b : FitsSigned w64 c.args.b = c.ranges.b in
    let d : FitsSigned w64 (c.args.b -ℤ c.args.a) = search rules in
    let r : FitsSigned w64 c.part.result = search rules in
    let is = simp to_z-of_z at c.part.ensures in
    let small = between-within (pos c.args.way) (pos (10 ^ 18)) c.args.a c.args.b (10 ^ 12) (omega (arith, ints)) (omega (arith, ints, c.requires.way)) c.requires.a c.requires.b in
    omega (arith, ints, is, small)

pub returns-clause-bound : goal.returns-clause-bound
returns-clause-bound c = omega (arith, ap unsigned_abs (returns-clause-value c), between-within (pos c.args.way) (pos (10 ^ 18)) c.args.a c.args.b (10 ^ 12) (omega (arith, ints)) (omega (arith, ints, c.requires.way)) c.requires.a c.requires.b)
