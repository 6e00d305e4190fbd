use Rattle.emtp_walk.proofs.ControlSounding.{one_more_extra}
use Rattle.emtp_walk.proofs.device_steps.keep_extra.Goals as goal

pub returns-clause-sound : goal.returns-clause-sound
returns-clause-sound c = rw c.in_ok-push.ensures.ok (one_more_extra c.args.deck.now c.args.entry c.requires.whole c.requires.extra)
