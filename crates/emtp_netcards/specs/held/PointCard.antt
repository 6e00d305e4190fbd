-- Beside `PointCard`: what values hold for their proofs, and what premises say. No clause of the program reaches it.
use Rattle.emtp_fix.specs.declared.limit.TheConstants.{LARGEST_TIME, LARGEST_VALUE}
use Rattle.std.specs.Prelude.{◌≡◌, ℕ, ◌^◌, ℤ, pos, neg_ℤ, int_lt, true, false, List, Option, Some, None, Result, Ok, if◌then◌else◌}
use Rattle.emtp_card.specs.held.Number.{IsWithin}
use Rattle.emtp_card.specs.declared.fault.Fault.{Fault}
use Rattle.emtp_card.specs.declared.reason.Bad.{Bad}
use Rattle.emtp_case.specs.held.Branch.{IsRise, IsSegment}
use Rattle.emtp_case.specs.declared.branch.Point.{Point}
use Rattle.emtp_netcards.specs.Reading.{◌>>=◌, both, card_due}
use Rattle.emtp_netcards.specs.declared.point_card.PointScale.{PointScale}
use Rattle.emtp_netcards.specs.declared.point_card.PointScale.TheVariants.{Reactor, Resistor, Table, Times}
use Rattle.emtp_netcards.specs.PointCard.{first_field, second_field, is_ending, goes_on, origin_or}

abbrev pub point_of : Result ℤ Fault → Result ℤ Fault → Result (Option Point) Fault
point_of first second = do
  (x, y) ← both first second
  Ok (Some (record { current = x; other = y }))

-- a card by itself; an ending card has no point
unfoldable pub point_read : List ℕ → PointScale → Result (Option Point) Fault
point_read line scale = if is_ending line scale then Ok None else point_of (first_field line scale) (second_field line scale)

unfoldable pub point_card : ℕ → List ℕ → PointScale → Result (Option Point) Bad
point_card number line scale = card_due number line (point_read line scale)

abbrev pub IsValueOf : PointScale → ℤ → Type 0
IsValueOf Resistor x = IsWithin (pos 1) (pos (10 ^ 18)) x
IsValueOf Reactor x = IsWithin (pos 1) (pos (10 ^ 18)) x
IsValueOf Table x = IsWithin (neg_ℤ (pos LARGEST_VALUE)) (pos LARGEST_VALUE) x
IsValueOf Times x = IsWithin (pos 0) (pos LARGEST_TIME) x

pub record IsPointOf (scale : PointScale) (p : Point) : Type 0 where
  pub current : IsValueOf scale p.current
  pub other : IsValueOf scale p.other

abbrev pub IsFirstAfter : PointScale → Option Point → ℤ → Type 0
IsFirstAfter Resistor before x = IsRise (origin_or before).current x
IsFirstAfter Reactor before x = IsRise (origin_or before).current x
IsFirstAfter Table before x = goes_on Table before x ≡ true
IsFirstAfter Times before x = goes_on Times before x ≡ true

abbrev pub IsSecondAfter : PointScale → Option Point → ℤ → ℤ → Type 0
IsSecondAfter Resistor before x y = IsRise (origin_or before).other y
IsSecondAfter Reactor before x y = IsRise (origin_or before).other y
IsSecondAfter Table before x y = Unit {0}
IsSecondAfter Times before x y = int_lt x y ≡ true

-- what a point of a group has against the one before it: the segment to it, or the order of inputs and times
abbrev pub Follows : PointScale → ℤ → Option Point → Point → Type 0
Follows Resistor dt before p = IsSegment false dt (origin_or before) p
Follows Reactor dt before p = IsSegment true dt (origin_or before) p
Follows Table dt before p = goes_on Table before p.current ≡ true
Follows Times dt before p = (goes_on Times before p.current ≡ true) × (int_lt p.current p.other ≡ true)
