use Rattle.std.proofs.Common.{ap}
use Rattle.emtp_card.proofs.Returns.{same-lines}
use Rattle.emtp_deck.specs.Deck.{deck_of}
use Rattle.emtp_deck.proofs.laws.returns_do_not_matter.Goals as goal

pub returns : goal.returns
returns c before after same = ap deck_of (same-lines before after same)
