use Rattle.emtp_walk.proofs.ControlSounding.{one_more_output}
use Rattle.emtp_walk.proofs.control_steps.tacs_output_step.Goals as goal

pub returns-in_ok-push-in-Ok-clause-sound : goal.returns-in_ok-push-in-Ok-clause-sound
returns-in_ok-push-in-Ok-clause-sound c = rw c.in_ok-push-in-Ok.ensures.ok (one_more_output c.args.deck.now c.args.line.now.number c.in-Ok.names c.requires.whole)
