use Rattle.emtp_walk.proofs.BranchSounding.{one_more_branch}
use Rattle.emtp_walk.proofs.deck.Deck.keep_trio.Goals as goal

pub returns-clause-whole : goal.returns-clause-whole
returns-clause-whole c = rw c.in_ok-push.ensures.ok (one_more_branch c.args.self.now _ c.requires.whole (c.requires.trio, c.requires.third))
