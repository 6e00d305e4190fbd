-- The places in front of the sections and behind them.
use Rattle.emtp_walk.specs.declared.deck.Place.{Place}
use Rattle.emtp_walk.specs.declared.deck.Place.TheVariants.{After, Begin, First}

abbrev pub IsBeginning : Place → Type 0
IsBeginning Begin = Unit {0}
IsBeginning (First seen) = Unit {0}
IsBeginning other = ⊥

abbrev pub IsEnding : Place → Type 0
IsEnding (After seen) = Unit {0}
IsEnding other = ⊥
