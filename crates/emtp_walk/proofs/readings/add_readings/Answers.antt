use Rattle.std.proofs.Common.{◌+◌, arith}
use Rattle.emtp_walk.proofs.ReadingSteps.{kind_due, reading_last, reading_more}
use Rattle.emtp_walk.proofs.readings.add_readings.Goals as goal

pub returns-in-Err-Bad : goal.returns-in-Err-Bad
returns-in-Err-Bad c =
    let stops = rw c.in-Err-Bad.field-0-is at c.in-Err-Bad.ensures.value in
    reading_last c.args.cards.now c.loop-at.at (c.loop-at.at + 1) c.loop-at.deck c.loop-at.place c.line-line.result.bytes.now c.in-Err-Bad.field-0-0 c.line_reading.result c.loop-at.readings.items c.push.new.self.items _
    c.line-line.ensures.bytes (rw c.line-line.ensures.number at stops) (rw c.line-line.ensures.number at c.line_reading.ensures) c.in_ok-push.ensures.items c.loop-at.invariant.same

pub loop-at-preserved : goal.loop-at-preserved
loop-at-preserved c = record {
  same = reading_more c.args.cards.now c.loop-at.at (c.loop-at.at + 1) c.loop-at.deck c.advance.new.deck c.loop-at.place c.in-Ok.next c.line-line.result.bytes.now c.line_reading.result c.loop-at.readings.items c.push.new.self.items _
      c.line-line.ensures.bytes (rw c.line-line.ensures.number at c.in-Ok.ensures.value) (rw c.line-line.ensures.number at c.line_reading.ensures) c.in_ok-push.ensures.items c.loop-at.invariant.same;
  sound = c.in-Ok.ensures.sound;
}

pub returns : goal.returns
returns c =
    kind_due c.args.cards.now c.loop-at.at (c.loop-at.at + 1) (c.len.result + 1) c.loop-at.deck c.loop-at.place c.due.result c.loop-at.readings.items c.push-2.new.self.items _
    (omega (arith, c.loop-at.auto.at-end, c.loop-at-test.false, c.len-at-end.ensures.length)) (omega (arith, c.loop-at.auto.at-end, c.loop-at-test.false)) c.due.ensures c.in_ok-push-2.ensures.items c.loop-at.invariant.same
