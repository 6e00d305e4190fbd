-- The branches, and the numbers that their laws make of the cards.
use Rattle.emtp_case.specs.declared.branch.Branch.{Branch}
use Rattle.emtp_case.specs.declared.branch.Branch.TheVariants.{Line as OfLine, Lumped as OfLumped, Phase as OfPhase, Pseudo as OfPseudo}
use Rattle.emtp_case.specs.declared.branch.Point.{Point}
use Rattle.emtp_case.specs.declared.branch.Trio.{Trio}
use Rattle.emtp_fix.specs.Rounding.{near}
use Rattle.emtp_fix.specs.declared.limit.TheConstants.{LARGEST_ENTRY, LARGEST_IMPEDANCE, LEAST_IMPEDANCE}
use Rattle.std.specs.Ordering.{int_eq}
use Rattle.std.specs.Prelude.{◌*◌, ◌^◌, ◌+ℤ◌, ◌-ℤ◌, ◌*ℤ◌, if◌then◌else◌, Bool, List, drop, false, map, pos, slice_index_or, take, true, ℕ, ℤ}

-- Series branches

-- zL and zC, the trapezoidal companions of an inductance and a capacitance in micro-ohm; an absent part, which is 0,
-- gives 0
abbrev pub inductor_impedance : ℤ → ℤ → ℤ
inductor_impedance dt l = near (pos (2 * 10 ^ 9) *ℤ l) dt

unfoldable pub capacitor_impedance : ℤ → ℤ → ℤ
capacitor_impedance dt c = if int_eq c (pos 0) then pos 0 else near (dt *ℤ pos (10 ^ 9)) (pos 2 *ℤ c)

-- Z, the impedance of a resistance, an inductance and a capacitance in series, in one step
abbrev pub series_impedance : ℤ → ℤ → ℤ → ℤ → ℤ
series_impedance dt r l c = r +ℤ inductor_impedance dt l +ℤ capacitor_impedance dt c

-- Lines

-- the impedance of a lossy line's end: a quarter of the resistance stands at each end of a half line
abbrev pub line_impedance : ℤ → ℤ → ℤ
line_impedance zc r = zc +ℤ near r (pos 4)

-- Pseudo-nonlinear branches

abbrev pub origin : Point
origin = record { current = pos 0; other = pos 0 }

-- the points from a place on
abbrev pub points_of : List Point → ℕ → ℕ → List Point
points_of points first count = take count (drop first points)

-- the resistance in micro-ohm of a resistor's segment, or the conductance in pS of a reactor's, between two points
abbrev pub slope_of : Bool → ℤ → Point → Point → ℤ
slope_of false dt a b = near ((b.other -ℤ a.other) *ℤ pos (10 ^ 6)) (b.current -ℤ a.current)
slope_of true dt a b = near (dt *ℤ (b.current -ℤ a.current) *ℤ pos 1000) (pos 2 *ℤ (b.other -ℤ a.other))

abbrev pub least_slope : Bool → ℕ
least_slope false = LEAST_IMPEDANCE
least_slope true = 1

abbrev pub greatest_slope : Bool → ℕ
greatest_slope false = LARGEST_IMPEDANCE
greatest_slope true = LARGEST_ENTRY

-- All branches

abbrev pub from_of : Branch → ℕ
from_of (OfLumped b) = b.from
from_of (OfLine b) = b.from
from_of (OfPseudo b) = b.from
from_of (OfPhase b) = b.from

abbrev pub to_of : Branch → ℕ
to_of (OfLumped b) = b.to
to_of (OfLine b) = b.to
to_of (OfPseudo b) = b.to
to_of (OfPhase b) = b.to

abbrev pub line_of : Branch → ℕ
line_of (OfLumped b) = b.line
line_of (OfLine b) = b.line
line_of (OfPseudo b) = b.line
line_of (OfPhase b) = b.line

-- where phase 0 of a three-phase line stands
abbrev pub first_of_trio : List Trio → ℕ → ℕ
first_of_trio trios t = slice_index_or (map (λ (x : Trio). x.first) trios) t 0
