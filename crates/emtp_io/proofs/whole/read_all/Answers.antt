use Rattle.emtp_io.proofs.Pieces.{pieces}
use Rattle.std.proofs.lemmas.Grind.{common_steps}
use Rattle.std.proofs.Common.{arith}
use Rattle.emtp_io.proofs.whole.read_all.Goals as goal

pub returns : goal.returns
returns g c = grind (arith, common_steps, pieces)

pub chunks-preserved : goal.chunks-preserved
chunks-preserved g c = grind (arith, common_steps, pieces)

pub returns-in_err-count : goal.returns-in_err-count
returns-in_err-count g c = grind (arith, common_steps, pieces)

pub returns-in_err-extend_from_slice : goal.returns-in_err-extend_from_slice
returns-in_err-extend_from_slice g c = grind (arith, common_steps, pieces)
