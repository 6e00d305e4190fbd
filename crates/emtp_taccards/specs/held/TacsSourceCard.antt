-- Beside `TacsSourceCard`: what values hold for their proofs, and what premises say. No clause of the program reaches it.
use Rattle.emtp_fix.specs.declared.limit.TheConstants.{LARGEST_TIME}
use Rattle.std.specs.Prelude.{◌≡◌, false}
use Rattle.std.specs.Option.{ForSome}
use Rattle.emtp_case.specs.held.Range.{IsBetween}
use Rattle.emtp_case.specs.held.Source.{HasShapeNumbers, HasSourceNumbers}
use Rattle.emtp_case.specs.declared.source.Shape.{Shape}
use Rattle.emtp_case.specs.declared.source.Shape.TheVariants.{Cosine, NodeVoltage, Pulse, Ramp, Saw, Step, SwitchCurrent, SwitchStatus, Tacs}
use Rattle.emtp_case.specs.declared.source.Source.{Source}
use Rattle.emtp_netcards.specs.SourceCard.{source_of}
use Rattle.emtp_netcards.specs.held.Fields.{IsSmall}
use Rattle.emtp_netcards.specs.declared.source_card.SourceCard.{SourceCard}
use Rattle.emtp_taccards.specs.TacsSourceCard.{Course, Times}

-- a shape of the control's sources, whose node or switch isn't resolved
abbrev pub IsUnresolved : Shape → Type 0
IsUnresolved Step = Unit {0}
IsUnresolved (Ramp rise) = ⊥
IsUnresolved (Cosine freq phase) = Unit {0}
IsUnresolved (Tacs var) = ⊥
IsUnresolved (Pulse period width) = Unit {0}
IsUnresolved (Saw period) = Unit {0}
IsUnresolved (NodeVoltage node) = node ≡ 0
IsUnresolved (SwitchCurrent switch) = switch ≡ 0
IsUnresolved (SwitchStatus switch) = switch ≡ 0

-- what a course keeps that its card gives: any source has the numbers of its shape
pub record IsDriven (course : Course) : Type 0 where
  pub small : IsSmall course.1
  pub shape : IsUnresolved course.0
  pub numbers : (s : Source) → HasShapeNumbers s course.0

-- a source of this amplitude and these times has the numbers of its shape
pub record IsSignal (course : Course) (times : Times) : Type 0 where
  pub small : IsSmall course.1
  pub start : IsSmall times.0
  pub stop : ForSome times.1 (IsBetween 1 LARGEST_TIME)
  pub shape : IsUnresolved course.0
  pub numbers : (s : Source) → s.amplitude ≡ course.1 → s.start ≡ times.0 → s.stop ≡ times.1 → HasShapeNumbers s course.0

-- what a card keeps: the numbers of a source of the control
pub record HasTacsSourceNumbers (card : SourceCard) : Type 0 where
  pub no_current : card.current ≡ false
  pub numbers : HasSourceNumbers (source_of card)
  pub shape : IsUnresolved card.shape
