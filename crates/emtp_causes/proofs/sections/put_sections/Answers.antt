use Rattle.std.proofs.Common.{arith}
use Rattle.emtp_causes.proofs.SectionSteps.{all-read, line-more}
use Rattle.emtp_causes.proofs.sections.put_sections.Goals as goal

pub loop-at-preserved : goal.loop-at-preserved
loop-at-preserved c =
    rw c.after-section.ensures (line-more c.loop-at.section c.args.readings.now c.args.cards.now c.loop-at.at c.read_at-read.result c.line.result.bytes.now c.loop-at.out.items c.put_end.new.out.items _
    c.read_at-read.ensures c.line.ensures.bytes c.loop-at.invariant c.in_ok-put_end.ensures)

pub returns : goal.returns
returns c =
    all-read c.loop-at.section c.args.readings.now c.args.cards.now c.loop-at.at c.loop-at.out.items _
    (omega (arith, c.loop-at.auto.at-end, c.loop-at-test.false, c.min-at-end.ensures, c.len.ensures.length)) c.loop-at.invariant
