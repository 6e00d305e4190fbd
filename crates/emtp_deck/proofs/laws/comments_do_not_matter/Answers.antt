use Rattle.emtp_deck.proofs.SameDeck.{same_deck}
use Rattle.emtp_deck.proofs.laws.comments_do_not_matter.Goals as goal

pub returns : goal.returns
returns c xs ys alike = same_deck xs ys (c.walk_skips_comments.ensures.walk xs ys alike) (c.walk_skips_comments.ensures.count xs ys alike)
