use Rattle.emtp_deck.proofs.SameDeck.{same_deck}
use Rattle.emtp_deck.proofs.laws.blanks_at_ends_do_not_matter.Goals as goal

pub returns : goal.returns
returns c xs ys same = same_deck xs ys (c.walk_skips_blanks_at_ends.ensures.walk xs ys same) (c.walk_skips_blanks_at_ends.ensures.count xs ys same)
