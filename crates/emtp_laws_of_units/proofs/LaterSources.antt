-- The value of a source that comes later: nothing before it begins, and then what the source had.
use Rattle.std.proofs.Common.{◌≡◌, ◌∙◌, ◌+◌, ◌*◌, ◌≤◌, ◌&&◌, not, ap, refl, ℕ, ℤ, pos, negsuc, ◌+ℤ◌, ◌-ℤ◌, ◌*ℤ◌, ◌≤ℤ◌, ◌<ℤ◌, int_lt, if◌then◌else◌, Bool, true, false, List, Option, Some, None, option_map, arith}
use Rattle.std.specs.Int.{int_max}
use Rattle.std.proofs.lemmas.Int.{int_max_is, ints}
use Rattle.std.proofs.lemmas.Nat.{mul-le}
use Rattle.emtp_case.specs.RunData.{time_of}
use Rattle.emtp_case.specs.declared.run_data.RunData.{RunData}
use Rattle.emtp_case.specs.declared.source.Shape.{Shape}
use Rattle.emtp_case.specs.declared.source.Shape.TheVariants.{Cosine, NodeVoltage, Pulse, Ramp, Saw, Step, SwitchCurrent, SwitchStatus, Tacs}
use Rattle.emtp_case.specs.declared.source.Source.{Source}
use Rattle.emtp_wave.specs.Wave.{active_value, is_active, is_over, ramp, value_of}
use Rattle.emtp_laws_of_units.specs.Later.{BeginsAfterRest, goes_from_its_start, later_source}

-- ---- times

-- the delay adds to the time
time_later : (run : RunData) (k n m : ℕ) → m ≡ n + k → time_of run m ≡ time_of run n +ℤ pos k *ℤ run.dt
time_later run k n m is = ap (time_of run) is ∙ split run.dt
  where
    split : (dt : ℤ) → pos (n + k) *ℤ dt ≡ pos n *ℤ dt +ℤ pos k *ℤ dt
    split dt = omega (arith, ints)

-- a time up to the delay comes before the start
not_begun : (dt start : ℤ) (k m : ℕ) → pos 1 ≤ℤ dt → pos 1 ≤ℤ start → m ≤ k → int_lt (pos m *ℤ dt) (start +ℤ pos k *ℤ dt) ≡ true
not_begun (pos d) start k m some begins low =
    let product : m * d ≤ k * d = mul-le m d k d low (omega arith) in
    let early : pos (m * d) <ℤ (start +ℤ pos (k * d)) = omega (arith, ints, product, begins) in
    less (pos (m * d)) (start +ℤ pos (k * d)) early
  where
    less : (a b : ℤ) → a <ℤ b → int_lt a b ≡ true
    less a b low = grind (arith, ints)
not_begun (negsuc d) start k m some begins low = absurd (omega (arith, ints, some))

moved_by : (a b delay : ℤ) (l : Bool) → int_lt a b ≡ l → int_lt (a +ℤ delay) (b +ℤ delay) ≡ l
moved_by a b delay true is = grind (arith, ints)
moved_by a b delay false is = grind (arith, ints)

less_moved : (a b delay : ℤ) → int_lt (a +ℤ delay) (b +ℤ delay) ≡ int_lt a b
less_moved a b delay = moved_by a b delay (int_lt a b) refl

over_moved : (stop : Option ℤ) (t delay : ℤ) → is_over (option_map (λ s. s +ℤ delay) stop) (t +ℤ delay) ≡ is_over stop t
over_moved None t delay = refl
over_moved (Some stop) t delay = less_moved stop t delay

active_moved : (s : Source) (t delay : ℤ) → is_active (later_source delay s) (t +ℤ delay) ≡ is_active s t
active_moved s t delay =
    ap (λ b. not b && not (is_over (option_map (λ z. z +ℤ delay) s.stop) (t +ℤ delay))) (less_moved t s.start delay)
    ∙ ap (λ b. not (int_lt t s.start) && not b) (over_moved s.stop t delay)

-- ---- values

since_rise : (t start delay : ℤ) → pos 1 ≤ℤ start → pos 0 ≤ℤ delay → (t +ℤ delay) -ℤ int_max (start +ℤ delay) (pos 0) ≡ t -ℤ int_max start (pos 0)
since_rise t start delay begins on = omega (arith, ints, int_max_is (start +ℤ delay) (pos 0), int_max_is start (pos 0), begins, on)

value_moved : (xs ys : List ℤ) (s : Source) (t delay : ℤ) (shape : Shape) → goes_from_its_start shape ≡ true → pos 1 ≤ℤ s.start → pos 0 ≤ℤ delay → active_value xs (later_source delay s) (t +ℤ delay) shape ≡ active_value ys s t shape
unfolding active_value
value_moved xs ys s t delay Step from begins on = refl
value_moved xs ys s t delay (Ramp rise) from begins on = ap (ramp s.amplitude rise) (since_rise t s.start delay begins on)
value_moved xs ys s t delay (Cosine freq phase) from begins on = absurd (cc)
value_moved xs ys s t delay (Tacs var) from begins on = absurd (cc)
value_moved xs ys s t delay (Pulse period width) from begins on = absurd (cc)
value_moved xs ys s t delay (Saw period) from begins on = absurd (cc)
value_moved xs ys s t delay (NodeVoltage node) from begins on = absurd (cc)
value_moved xs ys s t delay (SwitchCurrent switch) from begins on = absurd (cc)
value_moved xs ys s t delay (SwitchStatus switch) from begins on = absurd (cc)

some_delay : (dt : ℤ) (k : ℕ) → pos 1 ≤ℤ dt → pos 0 ≤ℤ (pos k *ℤ dt)
some_delay (pos d) k some = omega (arith, ints)
some_delay (negsuc d) k some = absurd (omega (arith, ints, some))

-- k steps later it has the value that the source had
pub value_later : (run : RunData) (xs ys : List ℤ) (s : Source) (k n m : ℕ) → pos 1 ≤ℤ run.dt → BeginsAfterRest s → m ≡ n + k → value_of run xs (later_source (pos k *ℤ run.dt) s) m ≡ value_of run ys s n
value_later run xs ys s k n m some begins is =
    let delay = pos k *ℤ run.dt in
    let t = time_of run n in
    ap (λ u. if is_active (later_source delay s) u then active_value xs (later_source delay s) u s.shape else pos 0) (time_later run k n m is)
    ∙ ap (λ b. if b then active_value xs (later_source delay s) (t +ℤ delay) s.shape else pos 0) (active_moved s t delay)
    ∙ ap (λ v. if is_active s t then v else pos 0) (value_moved xs ys s t delay s.shape begins.shape begins.start (some_delay run.dt k some))

-- a source that hasn't begun has no value
pub not_active : (run : RunData) (xs : List ℤ) (s : Source) (m : ℕ) → int_lt (time_of run m) s.start ≡ true → value_of run xs s m ≡ pos 0
not_active run xs s m early = ap (λ b. if not b && not (is_over s.stop (time_of run m)) then active_value xs s (time_of run m) s.shape else pos 0) early

-- at time 0 it hasn't
pub not_begun_at_rest : (run : RunData) (s : Source) → BeginsAfterRest s → int_lt (time_of run 0) s.start ≡ true
not_begun_at_rest run s begins =
    let none : time_of run 0 ≡ pos 0 = omega (arith, ints) in
    ap (λ t. int_lt t s.start) none ∙ above s.start begins.start
  where
    above : (z : ℤ) → pos 1 ≤ℤ z → int_lt (pos 0) z ≡ true
    above z low = grind (arith, ints)

-- of a later one it is so up to step k
pub not_yet : (run : RunData) (s : Source) (k m : ℕ) → pos 1 ≤ℤ run.dt → BeginsAfterRest s → m ≤ k → int_lt (time_of run m) (later_source (pos k *ℤ run.dt) s).start ≡ true
not_yet run s k m some begins low = not_begun run.dt s.start k m some begins.start low
