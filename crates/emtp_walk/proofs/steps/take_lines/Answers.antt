use Rattle.std.proofs.Common.{◌∙◌, ◌+◌}
use Rattle.emtp_walk.proofs.Walking.{walk_on, walk_stops, refused_as}
use Rattle.emtp_walk.proofs.steps.take_lines.Goals as goal

pub returns-in-Err-clause-value : goal.returns-in-Err-clause-value
returns-in-Err-clause-value c =
    refused_as c.in-Err.refused _ _ c.advance.new.deck c.loop-at.invariant.same
    (walk_stops c.args.cards.now c.loop-at.at (c.loop-at.at + 1) c.loop-at.deck c.advance.new.deck c.loop-at.place c.line.result.bytes.now c.in-Err.refused c.line.ensures.bytes (rw c.line.ensures.number at c.in-Err.ensures.value))

pub loop-at-preserved : goal.loop-at-preserved
loop-at-preserved c = record {
  same = c.loop-at.invariant.same ∙ walk_on c.args.cards.now c.loop-at.at (c.loop-at.at + 1) c.loop-at.deck c.advance.new.deck c.loop-at.place c.in-Ok.next c.line.result.bytes.now c.line.ensures.bytes (rw c.line.ensures.number at c.in-Ok.ensures.value);
  sound = c.in-Ok.ensures.sound;
}
