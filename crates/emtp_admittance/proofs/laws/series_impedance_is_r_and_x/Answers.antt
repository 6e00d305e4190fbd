use Rattle.emtp_admittance.proofs.InverseRests.{series_inverse}
use Rattle.emtp_admittance.proofs.laws.series_impedance_is_r_and_x.Goals as goal

pub returns : goal.returns
returns c = series_inverse
