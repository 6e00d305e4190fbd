use Rattle.emtp_walk.proofs.Walking.{whole_of}
use Rattle.emtp_walk.proofs.steps.walk.Goals as goal

pub returns-in-Ok-clause-whole : goal.returns-in-Ok-clause-whole
returns-in-Ok-clause-whole c = whole_of c.take_lines.new.deck c.in-Ok.place c.in-Ok.ensures.sound
