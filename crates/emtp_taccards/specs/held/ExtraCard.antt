-- Beside `ExtraCard`: what values hold for their proofs, and what premises say. No clause of the program reaches it.
use Rattle.emtp_taccards.specs.held.DeviceCard.{HasDeviceNumbers, HasItsD}
use Rattle.emtp_taccards.specs.held.FormulaCard.{IsParsed}
use Rattle.emtp_taccards.specs.declared.extra_card.ExtraCard.{ExtraCard}
use Rattle.emtp_taccards.specs.declared.extra_card.ExtraCard.TheVariants.{Device, Formula}

-- what a card keeps
abbrev pub HasExtraNumbers : ExtraCard → Type 0
HasExtraNumbers (Device card) = HasDeviceNumbers card × HasItsD card
HasExtraNumbers (Formula card) = IsParsed card.parsed
