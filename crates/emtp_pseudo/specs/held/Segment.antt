-- Beside `Segment`: what values hold for their proofs, and what premises say. No clause of the program reaches it.
use Rattle.std.specs.Prelude.{◌≡◌, ◌*◌, ◌^◌, ◌≤◌, Bool, IfSome, true, unsigned_abs}
use Rattle.emtp_case.specs.held.Range.{IsBetween}
use Rattle.emtp_case.specs.declared.branch.Point.{Point}
use Rattle.emtp_fix.specs.declared.limit.TheConstants.{LARGEST_ENTRY, LARGEST_VALUE}
use Rattle.emtp_pseudo.specs.declared.segment.Segment.{Segment}

-- a point of a characteristic
pub record IsPoint (p : Point) : Type 0 where
  pub current : IsBetween 0 LARGEST_VALUE p.current
  pub other : IsBetween 0 LARGEST_VALUE p.other

-- the numbers of a segment; a reactor's rises no more steeply than its conductance allows
pub record IsSound (reactor : Bool) (s : Segment) : Type 0 where
  pub conductance : IsBetween 0 LARGEST_ENTRY s.conductance
  pub base_current : unsigned_abs s.base.current ≤ LARGEST_VALUE
  pub base_other : unsigned_abs s.base.other ≤ LARGEST_VALUE
  pub rise_current : IsBetween 1 LARGEST_VALUE s.rise.current
  pub rise_other : IsBetween 1 LARGEST_VALUE s.rise.other
  pub flat : reactor ≡ true → unsigned_abs s.rise.current ≤ 3 * 10 ^ 11 * unsigned_abs s.rise.other
  pub upper_end : IfSome s.upper (λ y. unsigned_abs y ≤ LARGEST_VALUE)
  pub lower_end : IfSome s.lower (λ y. unsigned_abs y ≤ LARGEST_VALUE)
