-- One straight segment of a characteristic. Point 0 is the origin, segment 0 passes through it, and the segments below 0
-- are the mirror images at the origin of those above.
use Rattle.std.specs.Prelude.{◌+◌, ◌∷◌, ◌+ℤ◌, ◌-ℤ◌, if◌then◌else◌, Bool, List, None, Option, Some, false, int_lt, length, nat_lt, neg_ℤ, negsuc, pos, slice_index_or, suc, true, zero, ℕ, ℤ}
use Rattle.emtp_case.specs.Branch.{origin, slope_of}
use Rattle.emtp_case.specs.declared.branch.Point.{Point}
use Rattle.emtp_fix.specs.Rounding.{near}
use Rattle.emtp_fix.specs.declared.limit.TheConstants.{ATTO}
use Rattle.emtp_pseudo.specs.declared.segment.Segment.{Segment}

-- point k of a characteristic
abbrev pub point_at : List Point → ℕ → Point
point_at points k = slice_index_or (origin ∷ points) k origin

-- g in pS between two points: of a resistor 1/r, of a reactor dt*di/(2*dy)
abbrev pub conductance_of : Bool → ℤ → Point → Point → ℤ
conductance_of false dt a b = near ATTO (slope_of false dt a b)
conductance_of true dt a b = slope_of true dt a b

-- di and dy, from one point to another
abbrev pub rise_of : Point → Point → Point
rise_of a b = record { current = b.current -ℤ a.current; other = b.other -ℤ a.other }

abbrev pub mirrored_point : Point → Point
mirrored_point p = record { current = neg_ℤ p.current; other = neg_ℤ p.other }

abbrev pub mirrored_end : Option ℤ → Option ℤ
mirrored_end None = None
mirrored_end (Some y) = Some (neg_ℤ y)

-- the end of segment k away from the origin; the last segment has none
abbrev pub outer_end : List Point → ℕ → Option ℤ
outer_end points k = if nat_lt (k + 1) (length points) then Some (point_at points (suc k)).other else None

-- its end towards the origin; segment 0 goes through the origin to the mirror image of its outer end
abbrev pub inner_end : List Point → ℕ → Option ℤ
inner_end points zero = mirrored_end (outer_end points zero)
inner_end points (suc k) = Some (point_at points (suc k)).other

-- segment k, from point k to the next
abbrev pub outward : Bool → ℤ → List Point → ℕ → Segment
outward reactor dt points k = record {
  conductance = conductance_of reactor dt (point_at points k) (point_at points (suc k));
  base = point_at points k;
  rise = rise_of (point_at points k) (point_at points (suc k));
  upper = outer_end points k;
  lower = inner_end points k;
}

-- the mirror image of a segment: base point and ends are turned, and the ends change places
abbrev pub mirrored : Segment → Segment
mirrored s = record {
  conductance = s.conductance;
  base = mirrored_point s.base;
  rise = s.rise;
  upper = mirrored_end s.lower;
  lower = mirrored_end s.upper;
}

-- any segment
unfoldable pub segment_of : Bool → ℤ → List Point → ℤ → Segment
segment_of reactor dt points (pos k) = outward reactor dt points k
segment_of reactor dt points (negsuc k) = mirrored (outward reactor dt points (suc k))

-- ---- the next segment

abbrev pub is_above : ℤ → Option ℤ → Bool
is_above y None = false
is_above y (Some end) = int_lt end y

abbrev pub is_below : ℤ → Option ℤ → Bool
is_below y None = false
is_below y (Some end) = int_lt y end

-- the number of the segment after a step on segment k that ends at the voltage or flux y
abbrev pub next_segment : Segment → ℤ → ℤ → ℤ
next_segment s k y = if is_above y s.upper then k +ℤ pos 1 else if is_below y s.lower then k -ℤ pos 1 else k
