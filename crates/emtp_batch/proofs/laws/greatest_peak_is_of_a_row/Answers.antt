use Rattle.emtp_batch.proofs.GreatestPeak.{greatest_of_rows}
use Rattle.emtp_batch.proofs.laws.greatest_peak_is_of_a_row.Goals as goal

pub returns : goal.returns
returns c = greatest_of_rows c.args.case.now.parts
