-- Beside `DeviceCard`: what values hold for their proofs, and what premises say. No clause of the program reaches it.
use Rattle.std.specs.Prelude.{IsSome, IsTrue}
use Rattle.emtp_case.specs.Control.{needs_d}
use Rattle.emtp_case.specs.held.Control.{HasRangeOfA}
use Rattle.emtp_netcards.specs.held.Fields.{IsSmall}
use Rattle.emtp_taccards.specs.declared.device_card.DeviceCard.{DeviceCard}

-- what a card keeps
pub record HasDeviceNumbers (card : DeviceCard) : Type 0 where
  pub a : HasRangeOfA card.code card.a
  pub b : IsSmall card.b
  pub c : IsSmall card.c

-- a device that looks at a variable D names one
abbrev pub HasItsD : DeviceCard → Type 0
HasItsD card = IsTrue (needs_d card.code) → IsSome card.d
