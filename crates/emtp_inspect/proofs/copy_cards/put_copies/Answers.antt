use Rattle.std.proofs.Common.{arith}
use Rattle.emtp_inspect.specs.CopyCards.{copy_in}
use Rattle.emtp_inspect.proofs.GivenLines.{all-read, line-more}
use Rattle.emtp_inspect.proofs.copy_cards.put_copies.Goals as goal

pub loop-at-preserved : goal.loop-at-preserved
loop-at-preserved c =
    line-more (copy_in c.args.shown.case.now.parts) c.args.shown.readings.now c.args.shown.cards.now c.loop-at.at c.read_at-read.result c.line-line.result.bytes.now c.loop-at.out.items c.put_copy.new.out.items _
    c.read_at-read.ensures c.line-line.ensures.bytes c.loop-at.invariant (rw (c.copied_line-copied.ensures, c.line-line.ensures.number) at c.in_ok-put_copy.ensures)

pub returns : goal.returns
returns c =
    all-read (copy_in c.args.shown.case.now.parts) c.args.shown.readings.now c.args.shown.cards.now c.loop-at.at c.loop-at.out.items _
    (omega (arith, c.loop-at.auto.at-end, c.loop-at-test.false, c.min-at-end.ensures, c.len.ensures.length)) c.loop-at.invariant
