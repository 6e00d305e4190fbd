-- Beside `BlockCard`: what values hold for their proofs, and what premises say. No clause of the program reaches it.
use Rattle.std.specs.Prelude.{◌≡◌, ◌≢◌, ◌≤◌, pos, false}
use Rattle.std.specs.Option.{ForSome}
use Rattle.emtp_netcards.specs.held.Fields.{IsSmall}
use Rattle.emtp_taccards.specs.declared.block_card.BlockCard.{BlockCard}
use Rattle.emtp_taccards.specs.BlockCard.{are_crossed}

-- what a card keeps
pub record HasBlockNumbers (card : BlockCard) : Type 0 where
  pub order : card.order ≤ 7
  pub some_gain : card.gain ≢ pos 0
  pub gain : IsSmall card.gain
  pub low : ForSome card.low IsSmall
  pub high : ForSome card.high IsSmall

-- its fixed limits don't cross, where neither is replaced by a named one
abbrev pub HasLimitsInOrder : BlockCard → Type 0
HasLimitsInOrder card = are_crossed card.low card.high card.low_name card.high_name ≡ false
