use Rattle.emtp_phasor.proofs.ComplexMatrix.{complex_at}
use Rattle.emtp_phasor.proofs.laws.matrix_is_complex.Goals as goal

pub returns : goal.returns
returns c = complex_at
