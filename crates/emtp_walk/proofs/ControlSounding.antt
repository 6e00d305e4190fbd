-- What the deck keeps when a card of the control is added.
use Rattle.std.proofs.Common.{List}
use Rattle.emtp_walk.specs.held.Coefficients.{IsBlockEntry}
use Rattle.emtp_walk.specs.ControlSteps.{keep_block, keep_extra, with_tacs_output, with_tacs_source}
use Rattle.emtp_walk.specs.held.Sound.{IsExtraEntry, IsTacsSourceCard, IsWhole}
use Rattle.emtp_walk.specs.declared.control_cards.BlockEntry.{BlockEntry}
use Rattle.emtp_walk.specs.declared.control_cards.ExtraEntry.{ExtraEntry}
use Rattle.emtp_walk.specs.declared.deck.Deck.{Deck}
use Rattle.emtp_netcards.specs.declared.source_card.SourceCard.{SourceCard}
use Rattle.emtp_walk.proofs.Sounding.{pushed}
use Rattle.std.proofs.Common.{ℕ, Option}

pub one_more_block : (deck : Deck) (entry : BlockEntry) → IsWhole deck → IsBlockEntry deck.run.dt entry → IsWhole (keep_block deck entry).0
one_more_block deck entry whole here = record {
  run = whole.run;
  control = record {
    blocks = pushed (IsBlockEntry deck.run.dt) deck.control.blocks entry whole.control.blocks here;
    sources = whole.control.sources;
    extras = whole.control.extras;
  };
  branches = whole.branches;
  switches = whole.switches;
  sources = whole.sources;
}

pub one_more_source : (deck : Deck) (card : SourceCard) → IsWhole deck → IsTacsSourceCard card → IsWhole (with_tacs_source deck card)
one_more_source deck card whole here = record {
  run = whole.run;
  control = record {
    blocks = whole.control.blocks;
    sources = pushed IsTacsSourceCard deck.control.sources card whole.control.sources here;
    extras = whole.control.extras;
  };
  branches = whole.branches;
  switches = whole.switches;
  sources = whole.sources;
}

pub one_more_extra : (deck : Deck) (entry : ExtraEntry) → IsWhole deck → IsExtraEntry deck.points entry → IsWhole (keep_extra deck entry).0
one_more_extra deck entry whole here = record {
  run = whole.run;
  control = record {
    blocks = whole.control.blocks;
    sources = whole.control.sources;
    extras = pushed (IsExtraEntry deck.points) deck.control.extras entry whole.control.extras here;
  };
  branches = whole.branches;
  switches = whole.switches;
  sources = whole.sources;
}

pub one_more_output : (deck : Deck) (number : ℕ) (names : List (Option (List ℕ))) → IsWhole deck → IsWhole (with_tacs_output deck number names)
one_more_output deck number names whole = record {
  run = whole.run;
  control = record {
    blocks = whole.control.blocks;
    sources = whole.control.sources;
    extras = whole.control.extras;
  };
  branches = whole.branches;
  switches = whole.switches;
  sources = whole.sources;
}
