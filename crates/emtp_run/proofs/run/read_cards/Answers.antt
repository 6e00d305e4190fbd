use Rattle.emtp_run.proofs.Decks.{by_size, read_bad, read_ok, size_bad}
use Rattle.emtp_run.proofs.run.read_cards.Goals as goal

pub returns-in_err-cards-clause-bad : goal.returns-in_err-cards-clause-bad
returns-in_err-cards-clause-bad c =
    size_bad c.args.bytes.now c.from_residual.result c.in_err-cards.field-0.0 c.from_residual.ensures.1 (by_size c.args.bytes.now c.split.result c.in_err-cards.field-0.0 c.split.ensures.bad c.in_err-cards.was)

pub returns-clause-ok : goal.returns-clause-ok
returns-clause-ok c = read_ok c.args.bytes.now c.in_ok-cards.cards c.read.result c.in_ok-cards.ensures.fits c.in_ok-cards.ensures.lines c.read.ensures.ok

pub returns-clause-bad : goal.returns-clause-bad
returns-clause-bad c = read_bad c.args.bytes.now c.in_ok-cards.cards c.read.result c.in_ok-cards.ensures.fits c.in_ok-cards.ensures.lines c.read.ensures.bad
