use Rattle.std.proofs.Common.{arith}
use Rattle.emtp_inspect.specs.ChannelCards.{asking_in}
use Rattle.emtp_inspect.proofs.GivenLines.{all-read, line-more}
use Rattle.emtp_inspect.proofs.channel_cards.add_group.Goals as goal

pub loop-at-preserved : goal.loop-at-preserved
loop-at-preserved c =
    line-more (asking_in c.args.shown.case.now.parts c.args.group) c.args.shown.readings.now c.args.shown.cards.now c.loop-at.at c.read_at-read.result c.line-line.result.bytes.now c.loop-at.lines.items c.add_times.new.lines.items _
    c.read_at-read.ensures c.line-line.ensures.bytes c.loop-at.invariant (rw (c.asked_in-count.ensures, c.line-line.ensures.number) at c.in_ok-add_times.ensures)

pub returns : goal.returns
returns c =
    all-read (asking_in c.args.shown.case.now.parts c.args.group) c.args.shown.readings.now c.args.shown.cards.now c.loop-at.at c.loop-at.lines.items _
    (omega (arith, c.loop-at.auto.at-end, c.loop-at-test.false, c.min-at-end.ensures, c.len.ensures.length)) c.loop-at.invariant
