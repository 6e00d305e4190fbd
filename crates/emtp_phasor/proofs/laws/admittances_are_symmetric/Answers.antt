use Rattle.emtp_phasor.proofs.ComplexMatrix.{entry_swapped}
use Rattle.emtp_phasor.proofs.laws.admittances_are_symmetric.Goals as goal

pub returns : goal.returns
returns c = entry_swapped
