use Rattle.std.proofs.Common.{arith, rules}
use Rattle.std.proofs.lemmas.Int.{ints}
use Rattle.emtp_wave.specs.Wave.{active_value}
use Rattle.emtp_wave.proofs.table.CosTable.active_value.Goals as goal

pub returns-in-Step-clause-value : goal.returns-in-Step-clause-value
unfolding active_value
returns-in-Step-clause-value c = search rules

pub returns-in-Ramp-clause-value : goal.returns-in-Ramp-clause-value
unfolding active_value
returns-in-Ramp-clause-value c = search rules

pub returns-in-Cosine-clause-value : goal.returns-in-Cosine-clause-value
unfolding active_value
returns-in-Cosine-clause-value c = search rules

pub returns-in-Tacs-clause-value : goal.returns-in-Tacs-clause-value
unfolding active_value
returns-in-Tacs-clause-value c = search rules

pub returns-in-Pulse-clause-value : goal.returns-in-Pulse-clause-value
unfolding active_value
returns-in-Pulse-clause-value c = search rules

pub returns-in-Saw-clause-value : goal.returns-in-Saw-clause-value
unfolding active_value
returns-in-Saw-clause-value c = search rules

pub since-requires-clause-start : goal.since-requires-clause-start
since-requires-clause-start c = omega (arith, ints, c.requires.numbers.start)

pub since-requires-clause-t : goal.since-requires-clause-t
since-requires-clause-t c = record { least = omega (arith, ints, c.requires.t.least, c.requires.t.most); most = omega (arith, ints, c.requires.t.least, c.requires.t.most) }

pub since-requires-clause-begun : goal.since-requires-clause-begun
since-requires-clause-begun c = omega (arith, ints, c.requires.begun, c.requires.numbers.start, c.requires.t.least, c.requires.t.most)

pub ramp-requires-clause-amplitude : goal.ramp-requires-clause-amplitude
ramp-requires-clause-amplitude c = omega (arith, ints, c.requires.numbers.amplitude)

pub ramp-requires-clause-m : goal.ramp-requires-clause-m
ramp-requires-clause-m c = record { least = omega (arith, ints, c.since.ensures.bound.least, c.since.ensures.bound.most); most = omega (arith, ints, c.since.ensures.bound.least, c.since.ensures.bound.most) }

pub phase_at-requires-clause-t : goal.phase_at-requires-clause-t
phase_at-requires-clause-t c = record { least = omega (arith, ints, c.requires.t.least, c.requires.t.most); most = omega (arith, ints, c.requires.t.least, c.requires.t.most) }

pub share-requires-clause-amplitude : goal.share-requires-clause-amplitude
share-requires-clause-amplitude c = omega (arith, ints, c.requires.numbers.amplitude)

pub after-requires-clause-start : goal.after-requires-clause-start
after-requires-clause-start c = omega (arith, ints, c.requires.numbers.start)

pub after-requires-clause-t : goal.after-requires-clause-t
after-requires-clause-t c = record { least = omega (arith, ints, c.requires.t.least, c.requires.t.most); most = omega (arith, ints, c.requires.t.least, c.requires.t.most) }

pub after-requires-clause-begun : goal.after-requires-clause-begun
after-requires-clause-begun c = omega (arith, ints, c.requires.begun, c.requires.numbers.start, c.requires.t.least, c.requires.t.most)

pub pulse-requires-clause-amplitude : goal.pulse-requires-clause-amplitude
pulse-requires-clause-amplitude c = omega (arith, ints, c.requires.numbers.amplitude)

pub pulse-requires-clause-m : goal.pulse-requires-clause-m
pulse-requires-clause-m c = omega (arith, ints, c.after.ensures.least, c.after.ensures.value, c.requires.t.most, c.requires.numbers.start)

pub after-requires-in-Saw-clause-start : goal.after-requires-in-Saw-clause-start
after-requires-in-Saw-clause-start c = omega (arith, ints, c.requires.numbers.start)

pub after-requires-in-Saw-clause-t : goal.after-requires-in-Saw-clause-t
after-requires-in-Saw-clause-t c = record { least = omega (arith, ints, c.requires.t.least, c.requires.t.most); most = omega (arith, ints, c.requires.t.least, c.requires.t.most) }

pub after-requires-in-Saw-clause-begun : goal.after-requires-in-Saw-clause-begun
after-requires-in-Saw-clause-begun c = omega (arith, ints, c.requires.begun, c.requires.numbers.start, c.requires.t.least, c.requires.t.most)

pub saw-requires-clause-amplitude : goal.saw-requires-clause-amplitude
saw-requires-clause-amplitude c = omega (arith, ints, c.requires.numbers.amplitude)

pub saw-requires-clause-m : goal.saw-requires-clause-m
saw-requires-clause-m c = omega (arith, ints, c.after-in-Saw.ensures.least, c.after-in-Saw.ensures.value, c.requires.t.most, c.requires.numbers.start)

pub returns-in-Step-clause-bound : goal.returns-in-Step-clause-bound
returns-in-Step-clause-bound c = λ _. omega (arith, ints, c.requires.numbers.amplitude)

pub returns-in-Ramp-clause-bound : goal.returns-in-Ramp-clause-bound
returns-in-Ramp-clause-bound c = λ _. omega (arith, ints, c.ramp.ensures.bound)

pub returns-in-Cosine-clause-bound : goal.returns-in-Cosine-clause-bound
returns-in-Cosine-clause-bound c = λ _. omega (arith, ints, c.share.ensures.bound)

pub returns-in-Pulse-clause-bound : goal.returns-in-Pulse-clause-bound
returns-in-Pulse-clause-bound c = λ _. omega (arith, ints, c.pulse.ensures.bound)

pub returns-in-Saw-clause-bound : goal.returns-in-Saw-clause-bound
returns-in-Saw-clause-bound c = λ _. omega (arith, ints, c.saw.ensures.bound)
