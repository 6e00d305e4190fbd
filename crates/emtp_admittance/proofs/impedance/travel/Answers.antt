use Rattle.emtp_fix.specs.declared.limit.TheConstants.{LARGEST_TIME}
use Rattle.std.proofs.Common.{FitsSigned, ◌≡◌, ◌≤◌, ◌^◌, ◌*ℤ◌, of_z, to_z, unsigned_abs, arith, rules, lit<}
use mir.Syntax.{w64, w128}
use Rattle.std.proofs.lemmas.Int.{ints, to_z-of_z, fits_signed_mul}
use Rattle.emtp_fix.proofs.Wide.{abs-mul-le}
use Rattle.emtp_admittance.proofs.impedance.travel.Goals as goal

few : (c : goal.Start) → unsigned_abs c.args.freq ≤ 10 ^ 13
few c = omega (arith, ints, c.requires.freq.least, c.requires.freq.most)

short : (c : goal.Start) → unsigned_abs c.args.delay ≤ LARGEST_TIME
short c = c.requires.delay

fits : (c : goal.Start) → FitsSigned w128 (c.args.freq *ℤ c.args.delay)
fits c = fits_signed_mul w128 c.args.freq c.args.delay (10 ^ 13) (10 ^ 18) (few c) (short c) (lit< tt)

pub overflow_mul-result : goal.overflow_mul-result
overflow_mul-result c =
    let f : FitsSigned w64 c.args.freq = c.ranges.freq in
    let t : FitsSigned w64 c.args.delay = c.ranges.delay in
    let f' : FitsSigned w128 c.args.freq = search rules in
    let t' : FitsSigned w128 c.args.delay = search rules in
    rw (to_z-of_z w64 c.args.freq f, to_z-of_z w128 c.args.freq f', to_z-of_z w64 c.args.delay t, to_z-of_z w128 c.args.delay t') (fits c)

pub returns-clause-value : goal.returns-clause-value
returns-clause-value c =
    let f : FitsSigned w64 c.args.freq = c.ranges.freq in
    let t : FitsSigned w64 c.args.delay = c.ranges.delay in
    let f' : FitsSigned w128 c.args.freq = search rules in
    let t' : FitsSigned w128 c.args.delay = search rules in
    let same : to_z w128 (of_z w128 (c.args.freq *ℤ c.args.delay)) ≡ c.args.freq *ℤ c.args.delay = to_z-of_z w128 (c.args.freq *ℤ c.args.delay) (fits c) in
    rw (to_z-of_z w64 c.args.freq f, to_z-of_z w128 c.args.freq f', to_z-of_z w64 c.args.delay t, to_z-of_z w128 c.args.delay t') same

pub returns-clause-bound : goal.returns-clause-bound
returns-clause-bound c = rw (returns-clause-value c) (abs-mul-le c.args.freq c.args.delay (10 ^ 13) (10 ^ 18) (few c) (short c))
