-- The equations of the devices, one a code. Over a step s is the signed sum of a device's inputs and y its output; s' and
-- y' are those of the last record, and 0 before the first.
use Rattle.std.specs.Prelude.{◌*◌, ◌^◌, ◌==◌, ◌&&◌, ◌||◌, ◌∷◌, [], ◌+ℤ◌, ◌-ℤ◌, ◌*ℤ◌, if◌then◌else◌, Bool, List, None, Option, Some, false, fold, int_le, int_lt, map, neg_ℤ, pos, slice_index_or, take, true, unsigned_abs, ℕ, ℤ}
use Rattle.std.specs.Int.{int_max, int_min}
use Rattle.std.specs.List.{list_any}
use Rattle.std.specs.Ordering.{int_eq}
use Rattle.emtp_case.specs.Branch.{points_of}
use Rattle.emtp_case.specs.HistoryValues.{delay_steps, period_steps}
use Rattle.emtp_case.specs.RunData.{time_of}
use Rattle.emtp_case.specs.StepRecord.{no_device}
use Rattle.emtp_case.specs.declared.branch.Point.{Point}
use Rattle.emtp_case.specs.declared.case.Parts.{Parts}
use Rattle.emtp_case.specs.declared.control.Device.{Device}
use Rattle.emtp_case.specs.declared.control.DeviceCode.{DeviceCode}
use Rattle.emtp_case.specs.declared.control.DeviceCode.TheVariants.{Counter, Delay, DelayedPulse, Derivative, EffectiveValue, Extreme, Gate, GateAbove, Integral, PeakHold, SampleHold, Selector, Table, Window}
use Rattle.emtp_case.specs.declared.control.DeviceState.{DeviceState}
use Rattle.emtp_case.specs.declared.control.Input.{Input}
use Rattle.emtp_fix.specs.Limit.{in_range, ◌>>=◌}
use Rattle.emtp_fix.specs.Root.{isqrt}
use Rattle.emtp_fix.specs.Rounding.{near}
use Rattle.emtp_fix.specs.declared.limit.TheConstants.{NANO, PICO}
use Rattle.emtp_hist.specs.History.{value_before}

-- ---- what a device reads: `values` has one number a variable, as names read it at the device's turn

abbrev pub value_of : List ℤ → ℕ → ℤ
value_of values var = slice_index_or values var (pos 0)

-- what an input brings: the value of its variable with its sign
abbrev pub brought : List ℤ → Input → ℤ
brought values i = if i.minus then neg_ℤ (value_of values i.var) else value_of values i.var

-- s
abbrev pub brought_sum : List ℤ → List Input → ℤ
brought_sum values inputs = fold (λ sum i. sum +ℤ brought values i) (pos 0) inputs

-- D or E, where it is named; else 0
abbrev pub named_value : List ℤ → Option ℕ → ℤ
named_value values None = pos 0
named_value values (Some var) = value_of values var

-- whether D or E is above 0; where it isn't named, `unnamed` says it
abbrev pub is_positive : Bool → List ℤ → Option ℕ → Bool
is_positive unnamed values None = unnamed
is_positive unnamed values (Some var) = int_lt (pos 0) (value_of values var)

-- ---- what the records keep of a device, newest first

abbrev pub inputs_of : List DeviceState → List ℤ
inputs_of past = map (λ (state : DeviceState). state.input) past

-- the newest of them; all 0 before the first
abbrev pub newest : List DeviceState → DeviceState
newest [] = no_device
newest (state ∷ past) = state

-- What an equation reads besides the case and the card: the number of the step, the values, s, the inputs of the records
-- and y'.
pub record Reading : Type 0 where
  pub step : ℕ
  pub values : List ℤ
  pub s : ℤ
  pub inputs : List ℤ
  pub last : ℤ

-- s'
abbrev pub last_input : List ℤ → ℤ
last_input inputs = value_before inputs 0

-- ---- the parts of the equations

-- 51, 52: s where the gate is open; where B isn't 0, where it is closed
abbrev pub gated : Bool → ℤ → ℤ → ℤ
gated is_open b s = if int_eq b (pos 0) then (if is_open then s else pos 0) else (if is_open then pos 0 else s)

-- 53, 54: the input of k records before this one
abbrev pub delayed : ℕ → Reading → ℤ
delayed k r = value_before (r.s ∷ r.inputs) k

-- 54: 1 where a number is above 0
abbrev pub one_above_zero : ℤ → ℤ
one_above_zero z = if int_lt (pos 0) z then NANO else pos 0

-- 56: the value at s of the straight line from a point to the next
abbrev pub between_points : ℤ → Point → Point → ℤ
between_points s p q = p.other +ℤ near ((s -ℤ p.current) *ℤ (q.other -ℤ p.other)) (q.current -ℤ p.current)

-- the value at s of the lines from point p on, on the first of them that ends no earlier than s; past the last its end
abbrev pub along : ℤ → Point → List Point → ℤ
along s p [] = p.other
along s p (q ∷ points) = if int_le s q.current then between_points s p q else along s q points

-- the value of a table at s; before its first point the value there
abbrev pub table_value : ℤ → List Point → ℤ
table_value s [] = pos 0
table_value s (p ∷ points) = if int_lt s p.current then p.other else along s p points

-- 57: whether a time lies within one of these pairs, its open time excluded
abbrev pub is_within_pair : ℤ → List Point → Bool
is_within_pair t pairs = list_any (λ (p : Point). int_le p.current t && int_lt t p.other) pairs

-- 58: y' and the trapezoid of both inputs over the step
abbrev pub integral : ℤ → ℤ → ℤ → ℤ → ℤ
integral dt s before y = y +ℤ near (dt *ℤ (s +ℤ before)) (pos (2 * 10 ^ 12))

-- 59: the change of the input a second
abbrev pub derivative : ℤ → ℤ → ℤ → ℤ
derivative dt s before = near ((s -ℤ before) *ℤ PICO) dt

-- 60: the input that a difference below, equal to or above 0 takes
abbrev pub taken_input : ℤ → ℕ
taken_input z = if int_lt z (pos 0) then 0 else if int_eq z (pos 0) then 1 else 2

-- 63, 64: the greater of two numbers where A is at least 0, else the lesser
abbrev pub extreme_of_two : ℤ → ℤ → ℤ → ℤ
extreme_of_two a x y = if int_le (pos 0) a then int_max x y else int_min x y

-- 63: the greatest or least of what the inputs bring
abbrev pub extreme : ℤ → List ℤ → List Input → ℤ
extreme a values [] = pos 0
extreme a values (i ∷ inputs) = fold (λ z i. extreme_of_two a z (brought values i)) (brought values i) inputs

-- 66: the square of an input, and the sum of them
abbrev pub square : ℤ → ℤ
square s = near (s *ℤ s) NANO

abbrev pub sum_of_squares : List ℤ → ℤ
sum_of_squares [] = pos 0
sum_of_squares (s ∷ inputs) = square s +ℤ sum_of_squares inputs

-- the root of the mean square of the last k inputs
abbrev pub effective_value : ℕ → List ℤ → ℤ
effective_value k inputs = isqrt (near (sum_of_squares (take k inputs)) (pos k) *ℤ NANO)

-- ---- the equations

-- y, in range or not
abbrev pub output_by : Parts → Device → Reading → DeviceCode → ℤ
output_by case x r Gate = gated (int_lt x.a (pos (unsigned_abs (named_value r.values x.d)))) x.b r.s
output_by case x r GateAbove = gated (int_lt x.a (named_value r.values x.d)) x.b r.s
output_by case x r Delay = delayed (delay_steps case.run.dt x.a) r
output_by case x r DelayedPulse = one_above_zero (delayed (delay_steps case.run.dt x.a) r)
output_by case x r Table = table_value r.s (points_of case.points x.first x.count)
output_by case x r Window =
    if is_within_pair (time_of case.run r.step) (points_of case.points x.first x.count) then r.s else pos 0
output_by case x r Integral =
    if is_positive false r.values x.e then pos 0
    else if is_positive true r.values x.d then integral case.run.dt r.s (last_input r.inputs) r.last
    else r.last
output_by case x r Derivative = derivative case.run.dt r.s (last_input r.inputs)
output_by case x r Selector =
    slice_index_or (map (brought r.values) x.inputs) (taken_input (named_value r.values x.d -ℤ x.a)) (pos 0)
output_by case x r SampleHold = if is_positive true r.values x.d then r.s else r.last
output_by case x r Extreme = extreme x.a r.values x.inputs
output_by case x r PeakHold = if is_positive false r.values x.d || r.step == 1 then r.s else extreme_of_two x.a r.last r.s
output_by case x r Counter = if is_positive false r.values x.d then pos 0 else r.last +ℤ r.s
output_by case x r EffectiveValue = effective_value (period_steps case.run.dt x.a) (r.s ∷ r.inputs)

-- ---- the next state

-- what a step reads after this past
abbrev pub reading_of : ℕ → List ℤ → List DeviceState → ℤ → Reading
reading_of step values past s =
    record { step = step; values = values; s = s; inputs = inputs_of past; last = (newest past).output }

-- what the next record keeps of a device; none where s or y is out of range
unfoldable pub next_state : Parts → Device → ℕ → List ℤ → List DeviceState → Option DeviceState
next_state case x step values past = do
  s ← in_range (brought_sum values x.inputs)
  y ← in_range (output_by case x (reading_of step values past s) x.code)
  Some (record { input = s; output = y })
