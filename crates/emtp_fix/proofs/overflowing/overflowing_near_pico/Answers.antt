use Rattle.std.proofs.Common.{◌≡◌, ◌<◌, ◌^◌, to_z, of_z, arith}
use mir.Syntax.{w128}
use Rattle.std.proofs.lemmas.Int.{ints}
use Rattle.std.proofs.lemmas.Nat.{le_or_l, le_or_r}
use Rattle.emtp_fix.proofs.overflowing.overflowing_near_pico.Goals as goal

pub returns-clause-overflow : goal.returns-clause-overflow
returns-clause-overflow c = λ none. omega (arith, none, le_or_l)

pub returns-clause-value : goal.returns-clause-value
returns-clause-value c = λ none.
    let wide : to_z w128 (of_z w128 c.args.x) ≡ c.args.x = omega (arith, ints) in
    let small : c.lifted_pico-y.result < 2 ^ 101 = omega (arith, none, le_or_r) in
    omega (arith, ints, rw wide at (c.lifted_pico-y.ensures small), c.lowered_pico.ensures.value small, c.lowered_pico.ensures.small)
