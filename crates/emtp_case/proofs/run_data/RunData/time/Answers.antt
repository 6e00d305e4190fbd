use Rattle.emtp_fix.specs.declared.limit.TheConstants.{LARGEST_TIME}
use Rattle.std.proofs.Common.{◌≡◌, ◌≤◌, ◌≤ℤ◌, ◌^◌, ◌*ℤ◌, ℕ, ℤ, negsuc, of_z, pos, to_z, unsigned_abs, arith}
use mir.Syntax.{w64}
use Rattle.std.proofs.lemmas.Int.{ints}
use Rattle.emtp_fix.proofs.Wide.{abs-mul-le, fits_64, through_64}
use Rattle.emtp_case.proofs.run_data.RunData.time.Goals as goal

few : (c : goal.After-result-1) → unsigned_abs (pos c.args.step) ≤ 10 ^ 6
few c = omega (arith, c.requires.step, c.requires.run.few_steps)

short : (c : goal.After-result-1) → unsigned_abs c.args.self.now.dt ≤ 10 ^ 12
short c = omega (arith, ints, c.requires.run.dt.least, c.requires.run.dt.most)

bound : (c : goal.After-result-1) → unsigned_abs (pos c.args.step *ℤ c.args.self.now.dt) ≤ LARGEST_TIME
bound c = omega (arith, abs-mul-le (pos c.args.step) c.args.self.now.dt (10 ^ 6) (10 ^ 12) (few c) (short c))

not_before : (n : ℕ) (dt : ℤ) → pos 1000 ≤ℤ dt → pos 0 ≤ℤ (pos n *ℤ dt)
not_before n (pos m) h = omega (arith, ints)
not_before n (negsuc m) h = absurd (omega (arith, ints))

pub overflow_mul-result : goal.overflow_mul-result
overflow_mul-result c =
    let step : to_z w64 (of_z w64 (pos c.args.step)) ≡ pos c.args.step = through_64 (pos c.args.step) (omega (arith, few c)) in
    let dt : to_z w64 (of_z w64 c.args.self.now.dt) ≡ c.args.self.now.dt = through_64 c.args.self.now.dt (omega (arith, short c)) in
    rw (c.from.ensures, step, dt) (fits_64 (pos c.args.step *ℤ c.args.self.now.dt) (omega (arith, bound c)))

pub returns-clause-value : goal.returns-clause-value
returns-clause-value c =
    let step : to_z w64 (of_z w64 (pos c.args.step)) ≡ pos c.args.step = through_64 (pos c.args.step) (omega (arith, few c)) in
    let dt : to_z w64 (of_z w64 c.args.self.now.dt) ≡ c.args.self.now.dt = through_64 c.args.self.now.dt (omega (arith, short c)) in
    rw (c.from.ensures, step, dt) (through_64 (pos c.args.step *ℤ c.args.self.now.dt) (omega (arith, bound c)))

pub returns-clause-bound : goal.returns-clause-bound
returns-clause-bound c =
    let low = not_before c.args.step c.args.self.now.dt c.requires.run.dt.least in
    rw (returns-clause-value c) (record { least = low; most = omega (arith, ints, low, bound c) })
