use Rattle.emtp_walk.proofs.DevicePoints.{device_group}
use Rattle.emtp_walk.proofs.Sounding.{point_whole}
use Rattle.emtp_walk.proofs.device_steps.take_device_point.Goals as goal

pub returns-clause-sound : goal.returns-clause-sound
returns-clause-sound c =
    rw c.in_ok-push.ensures.ok (
      point_whole c.args.deck.now c.args.point c.requires.whole,
      device_group c.args.deck.now c.args.group.now c.args.point c.requires.group c.requires.room c.requires.range c.requires.follows,
    )
