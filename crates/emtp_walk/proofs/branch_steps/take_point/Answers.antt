use Rattle.emtp_walk.proofs.Sounding.{point_whole, point_group}
use Rattle.emtp_walk.proofs.branch_steps.take_point.Goals as goal

pub returns-clause-sound : goal.returns-clause-sound
returns-clause-sound c =
    rw c.in_ok-push.ensures.ok (
      point_whole c.args.deck.now c.args.point c.requires.whole,
      point_group c.args.deck.now c.args.group.now c.args.point c.requires.group c.requires.room c.requires.range c.requires.follows,
    )
