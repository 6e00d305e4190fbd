use Rattle.emtp_admittance.proofs.ResistanceAlone.{resistance_left}
use Rattle.emtp_admittance.proofs.laws.equal_reactances_leave_the_resistance.Goals as goal

pub returns : goal.returns
returns c = resistance_left
