use Rattle.std.proofs.Common.{ap, unsigned_abs, FitsSigned, arith, rules}
use mir.Syntax.{w64}
use Rattle.std.proofs.lemmas.Int.{ints, to_z-of_z}
use Rattle.emtp_worth.proofs.Nearing.{inductor_small}
use Rattle.emtp_worth.proofs.nearest.kept_voltage.Goals as goal

pub scaled-requires-clause-a : goal.scaled-requires-clause-a
scaled-requires-clause-a c =
    let dt : FitsSigned w64 c.args.dt = c.ranges.dt in
    let l : FitsSigned w64 c.args.x.now.l = search rules in
    let is = simp to_z-of_z at c.inductor_impedance.ensures.value in
    let small = inductor_small c.args.dt c.args.x.now c.requires.dt c.requires.numbers in
    omega (arith, ints, ap unsigned_abs is, small.least, small.most)
