use Rattle.std.proofs.Common.{arith}
use Rattle.emtp_inspect.specs.RunCards.{card_text}
use Rattle.emtp_inspect.proofs.GivenLines.{all-read, line-more}
use Rattle.emtp_inspect.proofs.run_cards.put_run_cards.Goals as goal

pub loop-at-preserved : goal.loop-at-preserved
loop-at-preserved c =
    line-more card_text c.args.shown.readings.now c.args.shown.cards.now c.loop-at.at c.read_at-read.result c.line.result.bytes.now c.loop-at.out.items c.put_card.new.out.items _
    c.read_at-read.ensures c.line.ensures.bytes c.loop-at.invariant (rw c.line.ensures.number at c.in_ok-put_card.ensures)

pub returns : goal.returns
returns c =
    all-read card_text c.args.shown.readings.now c.args.shown.cards.now c.loop-at.at c.loop-at.out.items _
    (omega (arith, c.loop-at.auto.at-end, c.loop-at-test.false, c.min-at-end.ensures, c.len.ensures.length)) c.loop-at.invariant
