use Rattle.std.proofs.Common.{ap, unsigned_abs, refl, FitsSigned, arith, rules}
use mir.Syntax.{w64, w128}
use Rattle.std.proofs.lemmas.Int.{ints, to_z-of_z}
use Rattle.emtp_pseudo.proofs.Segments.{along-small}
use Rattle.emtp_pseudo.proofs.step.along.Goals as goal

pub returns-clause-bound : goal.returns-clause-bound
returns-clause-bound c =
    let f : FitsSigned w64 c.args.flux = c.ranges.flux in
    let f' : FitsSigned w128 c.args.flux = search rules in
    let a : FitsSigned w64 c.args.s.now.rise.current = search rules in
    let a' : FitsSigned w128 c.args.s.now.rise.current = search rules in
    let b : FitsSigned w64 c.args.s.now.rise.other = search rules in
    let b' : FitsSigned w128 c.args.s.now.rise.other = search rules in
    let is = simp to_z-of_z at c.quotient.ensures in
    omega (arith, ints, ap unsigned_abs is, along-small c.args.s.now.rise.current c.args.s.now.rise.other c.args.flux (c.requires.segment.flat refl) c.requires.flux)

pub quotient-requires-clause-a : goal.quotient-requires-clause-a
quotient-requires-clause-a c = omega (arith, ints, c.requires.segment.rise_current.least, c.requires.segment.rise_current.most)

pub quotient-requires-clause-b : goal.quotient-requires-clause-b
quotient-requires-clause-b c = omega (arith, ints, c.requires.flux)

pub quotient-requires-clause-d : goal.quotient-requires-clause-d
quotient-requires-clause-d c = omega (arith, ints, c.requires.segment.rise_other.least, c.requires.segment.rise_other.most)
