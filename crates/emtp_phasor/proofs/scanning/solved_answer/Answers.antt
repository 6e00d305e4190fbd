use Rattle.std.proofs.Common.{◌≡◌, to_z, of_z}
use mir.Syntax.{w64}
use Rattle.std.proofs.lemmas.Int.{to_z-of_z}
use Rattle.emtp_phasor.proofs.scanning.solved_answer.Goals as goal

pub at-requires-clause-ports : goal.at-requires-clause-ports
at-requires-clause-ports g c =
    let narrow : to_z w64 (of_z w64 c.args.freq) ≡ c.args.freq = to_z-of_z w64 c.args.freq c.ranges.freq in
    rw narrow c.requires.ports
