-- Beside `SwitchCard`: what values hold for their proofs, and what premises say. No clause of the program reaches it.
use Rattle.std.specs.Prelude.{◌≤◌}
use Rattle.emtp_case.specs.held.Switch.{IsSwitchKind}
use Rattle.emtp_netcards.specs.held.Fields.{AreEndNames, one_variable}
use Rattle.emtp_netcards.specs.declared.switch_card.SwitchCard.{SwitchCard}

-- what a card keeps: its ends are there, and the kind is one of a case with one variable, which stands for that of its name
pub record HasSwitchNumbers (card : SwitchCard) : Type 0 where
  pub ends : AreEndNames card.from card.to
  pub kind : IsSwitchKind one_variable card.kind
  pub few : card.asked ≤ 3
