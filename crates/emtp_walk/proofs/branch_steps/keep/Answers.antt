use Rattle.emtp_walk.proofs.BranchSounding.{card_alone}
use Rattle.emtp_walk.proofs.branch_steps.keep.Goals as goal

pub returns-clause-whole : goal.returns-clause-whole
returns-clause-whole c = rw c.in_ok-push.ensures.ok (card_alone c.args.deck.now c.args.card c.requires.whole c.requires.numbers c.requires.single c.requires.no_points)
