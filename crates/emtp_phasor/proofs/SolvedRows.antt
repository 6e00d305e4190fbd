-- The rows of a frequency's matrix, before the first is finished.
use Rattle.std.proofs.Common.{◌≡◌, length, arith}
use Rattle.emtp_elim.specs.Matrix.{Matrix}
use Rattle.emtp_elim.specs.held.Finished.{AreFinished}

-- no row is finished yet
pub none_finished : (rows done : Matrix) → length done ≡ 0 → AreFinished rows done
none_finished rows done none = record {
  within = omega (arith, none);
  finished = λ i below. absurd (omega (arith, none, below));
  good = λ i below. absurd (omega (arith, none, below));
}
