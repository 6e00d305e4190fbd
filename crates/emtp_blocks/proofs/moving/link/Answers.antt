use Rattle.std.proofs.Common.{◌≡◌, ◌≤◌, ◌+ℤ◌, ◌-ℤ◌, to_z, of_z, unsigned_abs, arith}
use mir.Syntax.{w128}
use Rattle.std.proofs.lemmas.Int.{ints}
use Rattle.emtp_fix.specs.declared.limit.TheConstants.{LARGEST_WIDE}
use Rattle.emtp_fix.proofs.Wide.{fits, through}
use Rattle.emtp_blocks.proofs.moving.link.Goals as goal

-- the numbers as the code reads them
here_is : (c : goal.Start) → to_z w128 (of_z w128 c.args.here) ≡ c.args.here
here_is c = through c.args.here (omega (arith, c.requires.here))

before_is : (c : goal.Start) → to_z w128 (of_z w128 c.args.before) ≡ c.args.before
before_is c = through c.args.before (omega (arith, c.requires.before))

error_is : (c : goal.Start) → to_z w128 (of_z w128 c.args.error) ≡ c.args.error
error_is c = through c.args.error (omega (arith, c.requires.error))

carried_is : (c : goal.Start) → to_z w128 (of_z w128 c.args.carried) ≡ c.args.carried
carried_is c = through c.args.carried (omega (arith, c.requires.carried))

-- the sums are small, one after another
small : (c : goal.Start) → unsigned_abs (c.args.here +ℤ c.args.before) ≤ LARGEST_WIDE
small c = omega (arith, ints, c.requires.here, c.requires.before)

small_less : (c : goal.Start) → unsigned_abs ((c.args.here +ℤ c.args.before) -ℤ c.args.error) ≤ LARGEST_WIDE
small_less c = omega (arith, ints, c.requires.here, c.requires.before, c.requires.error)

small_whole : (c : goal.Start) → unsigned_abs (((c.args.here +ℤ c.args.before) -ℤ c.args.error) +ℤ c.args.carried) ≤ LARGEST_WIDE
small_whole c = omega (arith, ints, c.requires.here, c.requires.before, c.requires.error, c.requires.carried)

-- and so they are what the code computes
sum_is : (c : goal.Start) → to_z w128 (of_z w128 (c.args.here +ℤ c.args.before)) ≡ c.args.here +ℤ c.args.before
sum_is c = through (c.args.here +ℤ c.args.before) (small c)

less_is : (c : goal.Start) → to_z w128 (of_z w128 ((c.args.here +ℤ c.args.before) -ℤ c.args.error)) ≡ (c.args.here +ℤ c.args.before) -ℤ c.args.error
less_is c = through ((c.args.here +ℤ c.args.before) -ℤ c.args.error) (small_less c)

pub overflow_add-result : goal.overflow_add-result
overflow_add-result c = rw (here_is c, before_is c) (fits _ (small c))

pub overflow_sub-result : goal.overflow_sub-result
overflow_sub-result c = rw (here_is c, before_is c, error_is c, sum_is c) (fits _ (small_less c))

pub overflow_add-result-2 : goal.overflow_add-result-2
overflow_add-result-2 c = rw (here_is c, before_is c, error_is c, carried_is c, sum_is c, less_is c) (fits _ (small_whole c))

pub returns : goal.returns
returns c = rw (here_is c, before_is c, error_is c, carried_is c, sum_is c, less_is c) (through _ (small_whole c))
