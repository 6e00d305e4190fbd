use Rattle.emtp_tacs.proofs.SixVariables.{standing_stay}
use Rattle.emtp_tacs.proofs.laws.standing_variables_are_present.Goals as goal

pub returns : goal.returns
returns c = λ H m part made. standing_stay c.args.case.now.parts H m part c.args.case.now.fits.draft.control made
