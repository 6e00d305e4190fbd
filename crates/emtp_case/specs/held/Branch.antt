-- What the branches of a case hold, their numbers and their ends. No clause of the program reaches it.
use Rattle.emtp_case.specs.declared.limit.TheConstants.{MOST_POINTS}
use Rattle.emtp_case.specs.held.Range.{AreEnds, IsBetween}
use Rattle.emtp_case.specs.held.Sizes.{Sizes}
use Rattle.emtp_case.specs.declared.branch.Branch.{Branch}
use Rattle.emtp_case.specs.declared.branch.Branch.TheVariants.{Line as OfLine, Lumped as OfLumped, Phase as OfPhase, Pseudo as OfPseudo}
use Rattle.emtp_case.specs.declared.branch.Line.{Line}
use Rattle.emtp_case.specs.declared.branch.Lumped.{Lumped}
use Rattle.emtp_case.specs.declared.branch.Phase.{Phase}
use Rattle.emtp_case.specs.declared.branch.Point.{Point}
use Rattle.emtp_case.specs.declared.branch.Pseudo.{Pseudo}
use Rattle.emtp_case.specs.declared.branch.Trio.{Trio}
use Rattle.emtp_case.specs.declared.run_data.RunData.{RunData}
use Rattle.emtp_fix.specs.declared.limit.TheConstants.{LARGEST_CAPACITANCE, LARGEST_IMPEDANCE, LARGEST_INDUCTANCE, LARGEST_TIME, LARGEST_VALUE, LEAST_IMPEDANCE}
use Rattle.std.specs.Prelude.{◌≡◌, ◌+◌, ◌^◌, ◌<◌, ◌≤◌, ◌∷◌, ◌≤ℤ◌, ◌<ℤ◌, Bool, List, None, Option, Some, length, map, pos, slice_index_or, ℕ, ℤ}
use Rattle.emtp_case.specs.Branch.{series_impedance, line_impedance, origin, points_of, slope_of, least_slope, greatest_slope, first_of_trio}

-- the numbers of a series branch
pub record HasSeriesNumbers (dt r l c : ℤ) : Type 0 where
  pub resistance : IsBetween 0 LARGEST_IMPEDANCE r
  pub inductance : IsBetween 0 LARGEST_INDUCTANCE l
  pub capacitance : IsBetween 0 LARGEST_CAPACITANCE c
  pub impedance : IsBetween LEAST_IMPEDANCE LARGEST_IMPEDANCE (series_impedance dt r l c)

pub record IsLumped (run : RunData) (n : Sizes) (b : Lumped) : Type 0 where
  pub ends : AreEnds n.nodes b.from b.to
  pub numbers : HasSeriesNumbers run.dt b.r b.l b.c

-- the numbers of a line, or of one mode of it
pub record HasLineNumbers (dt zc resistance travel : ℤ) : Type 0 where
  pub surge : IsBetween LEAST_IMPEDANCE LARGEST_IMPEDANCE zc
  pub r : IsBetween 0 LARGEST_IMPEDANCE resistance
  pub impedance : IsBetween LEAST_IMPEDANCE LARGEST_IMPEDANCE (line_impedance zc resistance)
  pub long : dt ≤ℤ travel
  pub delay : travel ≤ℤ pos LARGEST_TIME

pub record IsLine (run : RunData) (n : Sizes) (b : Line) : Type 0 where
  pub ends : AreEnds n.nodes b.from b.to
  pub numbers : HasLineNumbers run.dt b.zc b.r b.delay

-- the numbers of both modes of a three-phase line
abbrev pub IsTrio : RunData → Trio → Type 0
IsTrio run t =
    (m : ℕ) → m < 2 → HasLineNumbers run.dt (slice_index_or t.zc m (pos 0)) (slice_index_or t.r m (pos 0))
    (slice_index_or t.delay m (pos 0))

pub record IsPhase (n : Sizes) (b : Phase) : Type 0 where
  pub ends : AreEnds n.nodes b.from b.to
  pub trio : b.trio < n.trios
  pub phase : b.phase < 3

-- a number from 0 on and a larger one, to 10^18
pub record IsRise (low high : ℤ) : Type 0 where
  pub least : pos 0 ≤ℤ low
  pub rises : low <ℤ high
  pub most : high ≤ℤ pos (10 ^ 18)

-- from point a to point b both numbers rise, and the slope is in range
pub record IsSegment (reactor : Bool) (dt : ℤ) (a b : Point) : Type 0 where
  pub current_rises : a.current <ℤ b.current
  pub other_rises : a.other <ℤ b.other
  pub current_small : b.current ≤ℤ pos LARGEST_VALUE
  pub other_small : b.other ≤ℤ pos (10 ^ 18)
  pub slope : IsBetween (least_slope reactor) (greatest_slope reactor) (slope_of reactor dt a b)

-- the segments from the origin through all points
abbrev pub IsCharacteristic : Bool → ℤ → List Point → Type 0
IsCharacteristic reactor dt ps =
    (k : ℕ) → k < length ps
    → IsSegment reactor dt (slice_index_or (origin ∷ ps) k origin) (slice_index_or ps k origin)

pub record IsPseudo (run : RunData) (n : Sizes) (points : List Point) (b : Pseudo) : Type 0 where
  pub ends : AreEnds n.nodes b.from b.to
  pub some : 1 ≤ b.count
  pub few : b.count ≤ MOST_POINTS
  pub there : b.first + b.count ≤ length points
  pub characteristic : IsCharacteristic b.reactor run.dt (points_of points b.first b.count)

-- a branch among so many records, with these points
abbrev pub IsBranch : RunData → Sizes → List Point → Branch → Type 0
IsBranch run n points (OfLumped b) = IsLumped run n b
IsBranch run n points (OfLine b) = IsLine run n b
IsBranch run n points (OfPseudo b) = IsPseudo run n points b
IsBranch run n points (OfPhase b) = IsPhase n b

-- a branch that isn't the phase of a three-phase line
abbrev pub IsSingle : Branch → Type 0
IsSingle (OfLumped b) = Unit {0}
IsSingle (OfLine b) = Unit {0}
IsSingle (OfPseudo b) = Unit {0}
IsSingle (OfPhase b) = ⊥

-- the three-phase line and the number of a phase
abbrev pub phase_of : Branch → Option (ℕ × ℕ)
phase_of (OfLumped b) = None
phase_of (OfLine b) = None
phase_of (OfPseudo b) = None
phase_of (OfPhase b) = Some (b.trio, b.phase)

-- the same for the branch at a place
abbrev pub phase_at : List Branch → ℕ → Option (ℕ × ℕ)
phase_at branches at = slice_index_or (map phase_of branches) at None

-- each three-phase line has its phases 0, 1 and 2 in three consecutive places, and no phase stands elsewhere
pub record AreInThrees (branches : List Branch) (trios : List Trio) : Type 0 where
  pub phases : (t p : ℕ) → t < length trios → p < 3 → phase_at branches (first_of_trio trios t + p) ≡ Some (t, p)
  pub places : (at t p : ℕ) → phase_at branches at ≡ Some (t, p) → at ≡ first_of_trio trios t + p
