use Rattle.std.proofs.Common.{◌≤◌, ◌*◌, ◌^◌, arith}
use Rattle.std.proofs.Math.Nat.{div-le_of_le-mul}
use Rattle.std.proofs.lemmas.Int.{ints}
use Rattle.emtp_case.proofs.history_values.travel_steps.Goals as goal

pub returns-clause-few : goal.returns-clause-few
returns-clause-few c =
    let step : 1000 ≤ c.unsigned_abs-2.result = omega (arith, ints, c.unsigned_abs-2.ensures, c.requires.least) in
    let far : c.unsigned_abs.result ≤ c.unsigned_abs-2.result * (2 * 10 ^ 16) = omega (arith, step, c.ranges.delay) in
    div-le_of_le-mul c.unsigned_abs-2.result far
