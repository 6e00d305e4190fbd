use Rattle.std.proofs.Common.{unsigned_abs}
use Rattle.std.proofs.lemmas.Bool.{ltb-false}
use Rattle.emtp_laws_of_energy.proofs.Courses.{some_step}
use Rattle.emtp_laws_of_energy.proofs.Drifts.{keeps_nearly}
use Rattle.emtp_laws_of_energy.proofs.series.inductance_that_does_not_drift_keeps_its_current.Goals as goal

pub returns : goal.returns
returns c = λ x duration limit alone past m no_r no_c slow.
    let dt = c.args.case.now.parts.run.dt in
    keeps_nearly dt x limit (unsigned_abs duration) alone past m (some_step dt c.args.case.now.fits.draft.run.dt) no_r no_c (ltb-false _ _ slow)
