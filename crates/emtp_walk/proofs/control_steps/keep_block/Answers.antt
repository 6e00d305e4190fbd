use Rattle.emtp_walk.proofs.ControlSounding.{one_more_block}
use Rattle.emtp_walk.proofs.control_steps.keep_block.Goals as goal

pub returns-clause-sound : goal.returns-clause-sound
returns-clause-sound c = rw c.in_ok-push.ensures.ok (one_more_block c.args.deck.now c.args.entry c.requires.whole c.requires.block)
