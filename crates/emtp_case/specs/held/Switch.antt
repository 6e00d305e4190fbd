-- What a switch of a case holds. No clause of the program reaches it.
use Rattle.emtp_case.specs.held.Range.{AreEnds, IsBetween}
use Rattle.emtp_case.specs.held.Sizes.{Sizes}
use Rattle.emtp_case.specs.declared.switch.Switch.{Switch}
use Rattle.emtp_case.specs.declared.switch.SwitchKind.{SwitchKind}
use Rattle.emtp_case.specs.declared.switch.SwitchKind.TheVariants.{Control, Measuring, Time, Valve}
use Rattle.emtp_fix.specs.declared.limit.TheConstants.{LARGEST_TIME, LARGEST_VALUE}
use Rattle.std.specs.Option.{ForSome}
use Rattle.std.specs.Prelude.{◌<◌, ◌≤◌, Option, unsigned_abs, ℤ}

-- a closing time and an opening time, if there is one
pub record HasTimes (close : ℤ) (open_at : Option ℤ) : Type 0 where
  pub close_small : unsigned_abs close ≤ LARGEST_TIME
  pub open_small : ForSome open_at (λ t. unsigned_abs t ≤ LARGEST_TIME)

-- what opens and closes a switch, among so many records
abbrev pub IsSwitchKind : Sizes → SwitchKind → Type 0
IsSwitchKind n (Time close open_at margin) = HasTimes close open_at × IsBetween 0 LARGEST_VALUE margin
IsSwitchKind n Measuring = Unit {0}
IsSwitchKind n (Valve ignition holding control) =
    IsBetween 0 LARGEST_VALUE ignition × IsBetween 0 LARGEST_VALUE holding × ForSome control (λ v. v < n.vars)
IsSwitchKind n (Control control) = control < n.vars

-- a switch among so many records
pub record IsSwitch (n : Sizes) (s : Switch) : Type 0 where
  pub ends : AreEnds n.nodes s.from s.to
  pub kind : IsSwitchKind n s.kind
