use Rattle.emtp_laws_of_units.proofs.Periods.{wave_repeats}
use Rattle.emtp_laws_of_units.proofs.cosine.cosine_repeats_after_its_period.Goals as goal

pub returns : goal.returns
returns c = wave_repeats
