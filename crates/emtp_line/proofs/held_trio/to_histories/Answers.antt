use Rattle.std.proofs.Common.{arith}
use Rattle.std.proofs.lemmas.Int.{ints}
use Rattle.emtp_line.proofs.Bounds.{three_same}
use Rattle.emtp_line.proofs.held_trio.to_histories.Goals as goal

pub returns-clause-value : goal.returns-clause-value
returns-clause-value c =
    let h = c.requires in
    let z = h.zero_sequence.to_small in
    three_same (omega (arith, ints, z, h.first.waves.to_small)) (omega (arith, ints, z, h.second.waves.to_small)) (omega (arith, ints, z, h.third.waves.to_small))

pub overflow_add-first : goal.overflow_add-first
overflow_add-first c = omega (arith, ints, c.requires.zero_sequence.to_small, c.requires.first.waves.to_small)

pub overflow_add-second : goal.overflow_add-second
overflow_add-second c = omega (arith, ints, c.requires.zero_sequence.to_small, c.requires.second.waves.to_small)

pub overflow_add-third : goal.overflow_add-third
overflow_add-third c = omega (arith, ints, c.requires.zero_sequence.to_small, c.requires.third.waves.to_small)

pub returns-clause-within : goal.returns-clause-within
returns-clause-within c = record { first = omega (arith, ints, c.requires.zero_sequence.to_small, c.requires.first.waves.to_small); second = omega (arith, ints, c.requires.zero_sequence.to_small, c.requires.second.waves.to_small); third = omega (arith, ints, c.requires.zero_sequence.to_small, c.requires.third.waves.to_small) }
