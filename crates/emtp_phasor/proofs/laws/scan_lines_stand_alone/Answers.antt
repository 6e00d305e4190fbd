use Rattle.emtp_phasor.proofs.PhasorLaws.{line_alone}
use Rattle.emtp_phasor.proofs.laws.scan_lines_stand_alone.Goals as goal

pub returns : goal.returns
returns c = line_alone
