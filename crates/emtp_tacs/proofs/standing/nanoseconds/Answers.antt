use Rattle.std.proofs.Common.{unsigned_abs, arith}
use Rattle.std.proofs.lemmas.Int.{ints}
use Rattle.emtp_fix.proofs.Nearest.{near_abs-even, near-below_zero, near-from_zero}
use Rattle.emtp_tacs.proofs.standing.nanoseconds.Goals as goal

pub returns-then-time-lt0-clause-value : goal.returns-then-time-lt0-clause-value
returns-then-time-lt0-clause-value c =
    omega (arith, ints, c.requires, near-below_zero c.args.time 1000 (omega (arith, ints)), near_abs-even (unsigned_abs c.args.time) 500 (omega arith))

pub returns-else-time-lt0-clause-value : goal.returns-else-time-lt0-clause-value
returns-else-time-lt0-clause-value c =
    omega (arith, ints, c.requires, near-from_zero c.args.time 1000 (omega (arith, ints)), near_abs-even (unsigned_abs c.args.time) 500 (omega arith))

pub returns-then-time-lt0-clause-small : goal.returns-then-time-lt0-clause-small
returns-then-time-lt0-clause-small c = omega (arith, ints, c.requires)

pub returns-else-time-lt0-clause-small : goal.returns-else-time-lt0-clause-small
returns-else-time-lt0-clause-small c = omega (arith, ints, c.requires)
