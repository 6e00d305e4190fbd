-- Beside `Coefficients`: what values hold for their proofs, and what premises say. No clause of the program reaches it.
use Rattle.emtp_fix.specs.declared.limit.TheConstants.{LARGEST_COEFFICIENT}
use Rattle.std.specs.Prelude.{All, [], unsigned_abs, ℤ, ◌≤◌}
use Rattle.emtp_case.specs.Control.{step_gain}
use Rattle.emtp_case.specs.held.Control.{HasCoefficients}
use Rattle.emtp_case.specs.held.Name.{IsName}
use Rattle.emtp_case.specs.declared.control.Block.{Block}
use Rattle.emtp_case.specs.declared.control.Bound.TheVariants.{None as NoBound}
use Rattle.emtp_walk.specs.declared.control_cards.BlockEntry.{BlockEntry}
use Rattle.emtp_netcards.specs.held.Fields.{IsSmall}
use Rattle.emtp_taccards.specs.held.BlockCard.{HasBlockNumbers, HasLimitsInOrder}
use Rattle.emtp_taccards.specs.declared.block_card.BlockCard.{BlockCard}

-- a block whose coefficients are due
pub record IsBlockDue (card : BlockCard) : Type 0 where
  pub name : IsName card.name
  pub numbers : HasBlockNumbers card
  pub limits : HasLimitsInOrder card

-- a block as far as its coefficients go
abbrev pub transfer : BlockEntry → Block
transfer e = record {
  line = e.card.line;
  var = 0;
  order = e.card.order;
  inputs = [];
  gain = e.card.gain;
  top = e.top;
  bottom = e.bottom;
  low = NoBound;
  high = NoBound;
}

pub record IsBlockEntry (dt : ℤ) (e : BlockEntry) : Type 0 where
  pub card : IsBlockDue e.card
  pub top : All IsSmall e.top
  pub bottom : All IsSmall e.bottom
  pub coefficients : 1 ≤ e.card.order → HasCoefficients dt (transfer e)
  pub within_step : unsigned_abs (step_gain dt (transfer e)) ≤ LARGEST_COEFFICIENT
