use Rattle.std.proofs.Common.{◌≡◌, ◌≤◌, ◌*◌, ◌^◌, ◌-ℤ◌, ◌*ℤ◌, pos, unsigned_abs, FitsSigned, arith}
use mir.Syntax.{w128}
use Rattle.std.proofs.lemmas.Int.{ints, to_z-of_z}
use Rattle.emtp_fix.specs.Rounding.{near}
use Rattle.emtp_fix.proofs.Nearest.{near-rest}
use Rattle.emtp_wave.proofs.table.whole_turns.Goals as goal

record IsWhole (c : goal.After-near) : Type 0 where
  is : c.near.result ≡ near c.args.phase (pos (10 ^ 18))
  rest : 2 * unsigned_abs (c.args.phase -ℤ near c.args.phase (pos (10 ^ 18)) *ℤ pos (10 ^ 18)) ≤ 10 ^ 18

is_whole : (c : goal.After-near) → IsWhole c
is_whole c =
    let p : FitsSigned w128 c.args.phase = c.ranges.phase in
    record { is = simp to_z-of_z at c.near.ensures.value; rest = near-rest c.args.phase (pos (10 ^ 18)) (λ e. omega (arith, ints, e)) }

pub overflow_mul-result : goal.overflow_mul-result
overflow_mul-result c = let w = is_whole c in omega (arith, ints, w.is, w.rest, c.requires)

pub returns-clause-value : goal.returns-clause-value
returns-clause-value c = let w = is_whole c in omega (arith, ints, w.is, w.rest, c.requires)

pub returns-clause-nearest : goal.returns-clause-nearest
returns-clause-nearest c = let w = is_whole c in omega (arith, ints, w.is, w.rest, c.requires)
