-- Beside `SourceCard`: what values hold for their proofs, and what premises say. No clause of the program reaches it.
use Rattle.std.specs.Prelude.{◌≡◌, ℤ}
use Rattle.emtp_case.specs.held.Source.{HasShapeNumbers, HasSourceNumbers, IsNetworkShape}
use Rattle.emtp_case.specs.declared.source.Shape.{Shape}
use Rattle.emtp_case.specs.declared.source.Source.{Source}
use Rattle.emtp_netcards.specs.held.Fields.{IsSmall, one_variable}
use Rattle.emtp_netcards.specs.declared.source_card.SourceCard.{SourceCard}
use Rattle.emtp_netcards.specs.SourceCard.{source_of}

-- what a course in time keeps: a source that has this amplitude with it has the numbers of its shape
pub record IsCourse (shape : Shape) (amplitude : ℤ) : Type 0 where
  pub small : IsSmall amplitude
  pub network : IsNetworkShape one_variable shape
  pub numbers : (s : Source) → s.amplitude ≡ amplitude → HasShapeNumbers s shape

-- what a card keeps: the numbers of a source of the network, whose variable stands for that of its name
pub record HasSourceCardNumbers (card : SourceCard) : Type 0 where
  pub numbers : HasSourceNumbers (source_of card)
  pub shape : IsNetworkShape one_variable card.shape
