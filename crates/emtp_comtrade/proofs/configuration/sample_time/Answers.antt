use Rattle.emtp_case.specs.declared.limit.TheConstants.{LARGEST_TIME_STEP, MOST_STEPS}
use Rattle.emtp_fix.specs.declared.limit.TheConstants.{LARGEST_TIME}
use Rattle.std.proofs.Common.{◌≡◌, ◌≤◌, ◌*ℤ◌, of_z, pos, to_z, unsigned_abs, arith}
use mir.Syntax.{w64}
use Rattle.std.proofs.lemmas.Int.{ints}
use Rattle.emtp_fix.proofs.Wide.{abs-mul-le, fits_64, through_64}
use Rattle.emtp_comtrade.proofs.configuration.sample_time.Goals as goal

few : (c : goal.After-result-1) → unsigned_abs (pos c.args.case.now.parts.run.every) ≤ MOST_STEPS
few c = omega (arith, c.args.case.now.fits.draft.run.few_every)

short : (c : goal.After-result-1) → unsigned_abs c.args.case.now.parts.run.dt ≤ LARGEST_TIME_STEP
short c = let dt = c.args.case.now.fits.draft.run.dt in omega (arith, ints, dt.least, dt.most)

bound : (c : goal.After-result-1) → unsigned_abs (pos c.args.case.now.parts.run.every *ℤ c.args.case.now.parts.run.dt) ≤ LARGEST_TIME
bound c = let run = c.args.case.now.parts.run in omega (arith, abs-mul-le (pos run.every) run.dt MOST_STEPS LARGEST_TIME_STEP (few c) (short c))

pub overflow_mul-result : goal.overflow_mul-result
overflow_mul-result c =
    let run = c.args.case.now.parts.run in
    let every : to_z w64 (of_z w64 (pos run.every)) ≡ pos run.every = through_64 (pos run.every) (omega (arith, few c)) in
    let dt : to_z w64 (of_z w64 run.dt) ≡ run.dt = through_64 run.dt (omega (arith, short c)) in
    rw (c.from.ensures, every, dt) (fits_64 (pos run.every *ℤ run.dt) (omega (arith, bound c)))

pub returns-clause-value : goal.returns-clause-value
returns-clause-value c =
    let run = c.args.case.now.parts.run in
    let every : to_z w64 (of_z w64 (pos run.every)) ≡ pos run.every = through_64 (pos run.every) (omega (arith, few c)) in
    let dt : to_z w64 (of_z w64 run.dt) ≡ run.dt = through_64 run.dt (omega (arith, short c)) in
    rw (c.from.ensures, every, dt) (through_64 (pos run.every *ℤ run.dt) (omega (arith, bound c)))

pub returns-clause-bound : goal.returns-clause-bound
returns-clause-bound c = rw (returns-clause-value c) (bound c)
