use Rattle.emtp_inspect.proofs.Texts.{line-more}
use Rattle.emtp_inspect.proofs.telling.front_text.Goals as goal

pub loop-at-preserved : goal.loop-at-preserved
loop-at-preserved c =
    line-more c.args.cards.now c.loop-at.at c.line.result.bytes.now c.loop-at.text.items c.put.new.text.items c.put-in-loop-at.new.text.items
    c.line.ensures.bytes c.loop-at.invariant c.in_ok-put.ensures c.in_ok-put-2.ensures
