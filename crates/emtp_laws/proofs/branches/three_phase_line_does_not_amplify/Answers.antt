use Rattle.emtp_laws.proofs.LineWaves.{phase_small}
use Rattle.emtp_laws.proofs.branches.three_phase_line_does_not_amplify.Goals as goal

pub returns : goal.returns
returns c = λ t there first past zero_limit limit waves. phase_small c.args.case.now.parts t first past zero_limit limit c.args.case.now.fits there waves
