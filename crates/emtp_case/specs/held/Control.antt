-- What blocks, devices and formulas of a case hold: ranges, bounds and what they know. No clause of the program reaches it.
use Rattle.emtp_case.specs.declared.limit.TheConstants.{MOST_POINTS}
use Rattle.emtp_case.specs.Branch.{origin, points_of}
use Rattle.emtp_case.specs.held.Expr.{FitsPlaces, IsWhole}
use Rattle.emtp_case.specs.held.Range.{IsBetween}
use Rattle.emtp_case.specs.held.Sizes.{Sizes}
use Rattle.emtp_case.specs.declared.branch.Point.{Point}
use Rattle.emtp_case.specs.declared.case.Parts.{Parts}
use Rattle.emtp_case.specs.declared.control.Block.{Block}
use Rattle.emtp_case.specs.declared.control.Bound.{Bound}
use Rattle.emtp_case.specs.declared.control.Bound.TheVariants.{Fixed, Named, None as NoBound}
use Rattle.emtp_case.specs.declared.control.Device.{Device}
use Rattle.emtp_case.specs.declared.control.DeviceCode.{DeviceCode}
use Rattle.emtp_case.specs.declared.control.DeviceCode.TheVariants.{Delay, DelayedPulse, EffectiveValue, Table, Window}
use Rattle.emtp_case.specs.declared.control.Extra.{Extra}
use Rattle.emtp_case.specs.declared.control.Extra.TheVariants.{Device as OfDevice, Formula as OfFormula}
use Rattle.emtp_case.specs.declared.control.Formula.{Formula}
use Rattle.emtp_case.specs.declared.control.Input.{Input}
use Rattle.emtp_case.specs.declared.run_data.RunData.{RunData}
use Rattle.emtp_fix.specs.declared.limit.TheConstants.{LARGEST_COEFFICIENT, LARGEST_TIME, LARGEST_VALUE}
use Rattle.std.specs.Option.{ForSome}
use Rattle.std.specs.Prelude.{◌≡◌, ◌≢◌, ◌+◌, ◌-◌, ◌*◌, ◌^◌, ◌<◌, ◌≤◌, ◌≤ℤ◌, ◌<ℤ◌, [], All, IsSome, IsTrue, List, length, pos, slice_index_or, unsigned_abs, ℕ, ℤ}
use Rattle.emtp_case.specs.Control.{bilinear, divisor_of, denominator_of, numerator_of, step_gain, needs_d}

-- one value a variable, each in range
pub record AreKnown (case : Parts) (values : List ℤ) : Type 0 where
  pub one_each : length values ≡ length case.vars
  pub small : All (λ v. unsigned_abs v ≤ LARGEST_VALUE) values

-- no magnitude on the way of a coefficient is too large
abbrev pub HasWay : ℤ → ℤ → ℕ → Type 0
HasWay dt x power = (i : ℕ) → i ≤ power → unsigned_abs (bilinear dt x i) ≤ 8 * 10 ^ 25

-- the coefficients of a block of order 1 to 7
pub record HasCoefficients (dt : ℤ) (b : Block) : Type 0 where
  pub bottom_way : (j : ℕ) → j ≤ b.order → HasWay dt (slice_index_or b.bottom j (pos 0)) j
  pub top_way : (j : ℕ) → j ≤ b.order → HasWay dt (slice_index_or b.top j (pos 0)) j
  pub divisor : divisor_of dt b ≢ pos 0
  pub denominators : (j : ℕ) → j ≤ b.order → unsigned_abs (denominator_of dt b j) ≤ LARGEST_COEFFICIENT
  pub numerators : (j : ℕ) → j ≤ b.order → unsigned_abs (numerator_of dt b j) ≤ LARGEST_COEFFICIENT

-- a limit among so many records
abbrev pub IsBound : Sizes → Bound → Type 0
IsBound n NoBound = Unit {0}
IsBound n (Fixed x) = unsigned_abs x ≤ LARGEST_VALUE
IsBound n (Named v) = v < n.vars

-- two fixed limits don't cross
abbrev pub AreBounds : Bound → Bound → Type 0
AreBounds low high = (x y : ℤ) → low ≡ Fixed x → high ≡ Fixed y → x ≤ℤ y

-- a block among so many records; its variable isn't a standing one
pub record IsBlock (run : RunData) (n : Sizes) (b : Block) : Type 0 where
  pub own : 6 ≤ b.var
  pub there : b.var < n.vars
  pub order : b.order ≤ 7
  pub few_inputs : length b.inputs ≤ 5
  pub inputs : All (λ (i : Input). i.var < n.vars) b.inputs
  pub some_gain : b.gain ≢ pos 0
  pub gain : unsigned_abs b.gain ≤ LARGEST_COEFFICIENT
  pub top : All (λ x. unsigned_abs x ≤ LARGEST_COEFFICIENT) b.top
  pub bottom : All (λ x. unsigned_abs x ≤ LARGEST_COEFFICIENT) b.bottom
  pub coefficients : 1 ≤ b.order → HasCoefficients run.dt b
  pub within_step : unsigned_abs (step_gain run.dt b) ≤ LARGEST_COEFFICIENT
  pub low : IsBound n b.low
  pub high : IsBound n b.high
  pub bounds : AreBounds b.low b.high

-- A is a time for both delays, and a frequency for the effective value
pub record HasRangeOfA (code : DeviceCode) (a : ℤ) : Type 0 where
  pub small : unsigned_abs a ≤ 10 ^ 18
  pub delay : code ≡ Delay → pos 0 ≤ℤ a
  pub delayed_pulse : code ≡ DelayedPulse → pos 0 ≤ℤ a
  pub frequency : code ≡ EffectiveValue → IsBetween 1 (10 ^ 13) a

-- the points of a table: 2 to 64, with rising inputs
pub record IsTable (points : List Point) : Type 0 where
  pub some : 2 ≤ length points
  pub few : length points ≤ MOST_POINTS
  pub inputs : All (λ (p : Point). unsigned_abs p.current ≤ LARGEST_VALUE) points
  pub outputs : All (λ (p : Point). unsigned_abs p.other ≤ LARGEST_VALUE) points
  pub rising : (k : ℕ) → k + 1 < length points
      → (slice_index_or points k origin).current <ℤ (slice_index_or points (k + 1) origin).current

-- 1 to 64 pairs of times: each closes before it opens, and not before the one before it opened
pub record AreTimes (points : List Point) : Type 0 where
  pub some : 1 ≤ length points
  pub few : length points ≤ MOST_POINTS
  pub close : All (λ (p : Point). pos 0 ≤ℤ p.current) points
  pub «open» : All (λ (p : Point). p.other ≤ℤ pos LARGEST_TIME) points
  pub closes_first : All (λ (p : Point). p.current <ℤ p.other) points
  pub in_turn : (k : ℕ) → k + 1 < length points
      → (slice_index_or points k origin).other ≤ℤ (slice_index_or points (k + 1) origin).current

-- the numbers of one more point of a table, whose input is above the last one
pub record FollowsInTable (points : List Point) (p : Point) : Type 0 where
  pub room : length points < MOST_POINTS
  pub input : unsigned_abs p.current ≤ LARGEST_VALUE
  pub output : unsigned_abs p.other ≤ LARGEST_VALUE
  pub rises : (slice_index_or points (length points - 1) origin).current <ℤ p.current

-- one more pair of times, which closes no earlier than the last one opened
pub record FollowsInTime (points : List Point) (p : Point) : Type 0 where
  pub room : length points < MOST_POINTS
  pub close : pos 0 ≤ℤ p.current
  pub «open» : p.other ≤ℤ pos LARGEST_TIME
  pub closes_first : p.current <ℤ p.other
  pub in_turn : (slice_index_or points (length points - 1) origin).other ≤ℤ p.current

-- the card of a device among so many records; its variable isn't a standing one
pub record IsDeviceCard (n : Sizes) (x : Device) : Type 0 where
  pub own : 6 ≤ x.var
  pub there : x.var < n.vars
  pub few_inputs : length x.inputs ≤ 5
  pub inputs : All (λ (i : Input). i.var < n.vars) x.inputs
  pub a : HasRangeOfA x.code x.a
  pub b : unsigned_abs x.b ≤ LARGEST_VALUE
  pub c : unsigned_abs x.c ≤ LARGEST_VALUE
  pub d : ForSome x.d (λ v. v < n.vars)
  pub e : ForSome x.e (λ v. v < n.vars)
  pub required : IsTrue (needs_d x.code) → IsSome x.d

-- the points that a device of this code has: a table, times, or none
pub record HasDevicePoints (code : DeviceCode) (points : List Point) : Type 0 where
  pub table : code ≡ Table → IsTable points
  pub times : code ≡ Window → AreTimes points
  pub none : code ≢ Table → code ≢ Window → points ≡ []

-- a device among so many records, whose points are among these
pub record IsDevice (n : Sizes) (all : List Point) (x : Device) : Type 0 where
  pub card : IsDeviceCard n x
  pub points_there : x.first + x.count ≤ length all
  pub few_points : x.count ≤ MOST_POINTS
  pub points : HasDevicePoints x.code (points_of all x.first x.count)

-- a formula among so many records; its variable isn't a standing one
pub record IsFormula (n : Sizes) (x : Formula) : Type 0 where
  pub own : 6 ≤ x.var
  pub there : x.var < n.vars
  pub names : All (λ v. v < n.vars) x.vars
  pub nodes : All (FitsPlaces (length x.vars)) x.expr
  pub whole : IsWhole x.expr

-- a supplemental card among so many records, with these points
abbrev pub IsExtra : Sizes → List Point → Extra → Type 0
IsExtra n points (OfDevice x) = IsDevice n points x
IsExtra n points (OfFormula x) = IsFormula n x

abbrev pub var_of : Extra → ℕ
var_of (OfDevice x) = x.var
var_of (OfFormula x) = x.var
