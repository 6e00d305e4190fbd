use Rattle.emtp_elim.proofs.Prefix.{finished_fewer, finished_other}
use Rattle.emtp_elim.proofs.laws.finished_rows_stay.Goals as goal

pub returns : goal.returns
returns c = record { fewer = finished_fewer; other = finished_other }
