use Rattle.emtp_phasor.proofs.PhasorLaws.{imaginary_current, real_current}
use Rattle.emtp_phasor.proofs.laws.series_current_goes_by_the_difference.Goals as goal

pub returns-clause-real : goal.returns-clause-real
returns-clause-real c = real_current

pub returns-clause-imaginary : goal.returns-clause-imaginary
returns-clause-imaginary c = imaginary_current
