use Rattle.emtp_laws.proofs.LineWaves.{histories_small}
use Rattle.emtp_laws.proofs.branches.line_does_not_amplify.Goals as goal

pub returns : goal.returns
returns c = λ b x past limit is small_from small_to. histories_small c.args.case.now.parts b x past limit c.args.case.now.fits is small_from small_to
