use Rattle.std.proofs.Common.{◌≡◌, ◌*ℤ◌, ◌≤◌, ◌^◌, FitsSigned, arith, of_z, pos, rules, to_z, unsigned_abs}
use mir.Syntax.{w64, w128}
use Rattle.std.proofs.lemmas.Int.{ints, to_z-of_z}
use Rattle.emtp_fix.specs.declared.limit.TheConstants.{LARGEST_WIDE}
use Rattle.emtp_fix.proofs.Wide.{abs-mul-le, fits, through}
use Rattle.emtp_devices.proofs.table.time_of.Goals as goal

dt_fits : (c : goal.After-result-1) → FitsSigned w64 c.args.run.now.dt
dt_fits c = search rules

dt_small : (c : goal.After-result-1) → unsigned_abs c.args.run.now.dt ≤ 2 ^ 63
dt_small c = let fits = dt_fits c in omega (arith, ints, fits.sfits)

small : (c : goal.After-result-1) → unsigned_abs (pos c.args.step *ℤ c.args.run.now.dt) ≤ LARGEST_WIDE
small c = omega (arith, abs-mul-le (pos c.args.step) c.args.run.now.dt (2 ^ 32) (2 ^ 63) (omega (arith, ints, c.ranges.step.fits)) (dt_small c))

-- the numbers as the code reads them
step_is : (c : goal.After-result-1) → to_z w128 c.args.step ≡ pos c.args.step
step_is c = omega (arith, ints, c.ranges.step.fits)

dt_is : (c : goal.After-result-1) → to_z w64 (of_z w64 c.args.run.now.dt) ≡ c.args.run.now.dt
dt_is c = to_z-of_z w64 c.args.run.now.dt (dt_fits c)

wide_is : (c : goal.After-result-1) → to_z w128 (of_z w128 c.args.run.now.dt) ≡ c.args.run.now.dt
wide_is c = through c.args.run.now.dt (omega (arith, dt_small c))

pub overflow_mul-result : goal.overflow_mul-result
overflow_mul-result c = rw (step_is c, dt_is c, wide_is c) (fits (pos c.args.step *ℤ c.args.run.now.dt) (small c))

pub returns : goal.returns
returns c = rw (step_is c, dt_is c, wide_is c) (through (pos c.args.step *ℤ c.args.run.now.dt) (small c))
