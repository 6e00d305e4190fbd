use Rattle.emtp_phasor.proofs.PhasorLaws.{line_solved}
use Rattle.emtp_phasor.proofs.laws.scan_line_is_the_phasor.Goals as goal

pub returns : goal.returns
returns c = line_solved
