use Rattle.std.proofs.Common.{◌≡◌, to_z, of_z, arith}
use mir.Syntax.{w64}
use Rattle.std.proofs.lemmas.Int.{ints}
use Rattle.emtp_phasor.proofs.scanning.answer_at.Goals as goal

pub solved_answer-requires-clause-ports : goal.solved_answer-requires-clause-ports
solved_answer-requires-clause-ports g c =
    let range = c.in-Ok.ensures.range in
    let narrow : to_z w64 (of_z w64 c.in-Ok.freq) ≡ c.in-Ok.freq = omega (arith, ints, range.least, range.most) in
    rw narrow c.in-Ok.ensures.ports
