-- What is true of a next state, code by code.
use Rattle.std.proofs.Common.{◌≡◌, ◌≢◌, ◌∙◌, ap, sym, subst, refl, ℕ, zero, suc, ◌+◌, ◌≤◌, ◌==◌, ℤ, pos, ◌+ℤ◌, ◌-ℤ◌, ◌*ℤ◌, ◌≤ℤ◌, unsigned_abs, List, [], ◌∷◌, slice_index_or, Option, Some, None, IfSome, Bool, true, false, if◌then◌else◌, arith}
use Rattle.std.proofs.lemmas.Bool.Decides.{Decides-int_eq, nat_tests}
use Rattle.std.proofs.lemmas.Int.{ints}
use Rattle.std.specs.Ordering.{int_eq}
use Rattle.emtp_case.specs.HistoryValues.{delay_steps}
use Rattle.emtp_case.specs.StepRecord.{no_device}
use Rattle.emtp_case.specs.declared.case.Parts.{Parts}
use Rattle.emtp_case.specs.declared.control.Device.{Device}
use Rattle.emtp_case.specs.declared.control.DeviceCode.{DeviceCode}
use Rattle.emtp_case.specs.declared.control.DeviceCode.TheVariants.{Counter, Delay, Derivative, Integral, PeakHold, SampleHold}
use Rattle.emtp_case.specs.declared.control.DeviceState.{DeviceState}
use Rattle.emtp_devices.specs.Device.{brought_sum, derivative, gated, inputs_of, is_positive, last_input, newest, next_state, output_by, reading_of}
use Rattle.emtp_devices.proofs.Extremes.{extreme-above}
use Rattle.emtp_fix.specs.Limit.{in_range, ◌>>=◌}
use Rattle.emtp_fix.specs.Rounding.{near}
use Rattle.emtp_fix.specs.declared.limit.TheConstants.{PICO}
use Rattle.emtp_hist.specs.History.{value_before}
use Rattle.emtp_fix.proofs.Nearest.{near-zero}
use Rattle.emtp_fix.proofs.Quotients.{near-zero_times}
use Rattle.emtp_fix.proofs.Ranges.{in_range-is}

output-in : (P : DeviceState → Type 0) (s z : ℤ) (o : Option ℤ) → in_range z ≡ o → P (record { input = s; output = z }) → IfSome (o >>= (λ y. Some (record { input = s; output = y }))) P
output-in P s z None e is = tt
output-in P s z (Some y) e is = let Q = λ (y : ℤ). P (record { input = s; output = y }) in subst Q (sym (in_range-is z y e)) is

input-in : (case : Parts) (x : Device) (code : DeviceCode) (step : ℕ) (values : List ℤ) (past : List DeviceState) (P : DeviceState → Type 0) → x.code ≡ code → ((s : ℤ) → P (record { input = s; output = output_by case x (reading_of step values past s) code })) → (o : Option ℤ) → IfSome (o >>= (λ s. in_range (output_by case x (reading_of step values past s) x.code) >>= (λ y. Some (record { input = s; output = y })))) P
input-in case x code step values past P is h None = tt
input-in case x code step values past P is h (Some s) =
    let Q = λ (code : DeviceCode). P (record { input = s; output = output_by case x (reading_of step values past s) code }) in
    output-in P s (output_by case x (reading_of step values past s) x.code) (in_range (output_by case x (reading_of step values past s) x.code)) refl (subst Q (sym is) (h s))

-- what is true of any input with the output of its equation is true of the next state
pub next-has : (case : Parts) (x : Device) (code : DeviceCode) (step : ℕ) (values : List ℤ) (past : List DeviceState) (P : DeviceState → Type 0) → x.code ≡ code → ((s : ℤ) → P (record { input = s; output = output_by case x (reading_of step values past s) code })) → IfSome (next_state case x step values past) P
unfolding next_state
next-has case x code step values past P is h = input-in case x code step values past P is h (in_range (brought_sum values x.inputs))

-- ---- delays

pub no-delay : (case : Parts) (x : Device) (step : ℕ) (values : List ℤ) (past : List DeviceState) → x.code ≡ Delay → x.a ≡ pos 0 → IfSome (next_state case x step values past) (λ (state : DeviceState). state.output ≡ state.input)
no-delay case x step values past code a =
    let none : delay_steps case.run.dt x.a ≡ 0 = ap (λ a. delay_steps case.run.dt a) a ∙ ap unsigned_abs (near-zero case.run.dt) in
    next-has case x Delay step values past (λ (state : DeviceState). state.output ≡ state.input) code (λ s. ap (λ k. value_before (s ∷ inputs_of past) k) none)

inputs-before : (past : List DeviceState) (k : ℕ) → slice_index_or (inputs_of past) k (pos 0) ≡ (slice_index_or past k no_device).input
inputs-before [] k = refl
inputs-before (state ∷ past) zero = refl
inputs-before (state ∷ past) (suc k) = inputs-before past k

pub delay-back : (case : Parts) (x : Device) (step : ℕ) (values : List ℤ) (past : List DeviceState) (k : ℕ) → x.code ≡ Delay → delay_steps case.run.dt x.a ≡ k + 1 → IfSome (next_state case x step values past) (λ (state : DeviceState). state.output ≡ (slice_index_or past k no_device).input)
delay-back case x step values past k code is =
    let is' : delay_steps case.run.dt x.a ≡ suc k = omega (arith, is) in
    next-has case x Delay step values past (λ (state : DeviceState). state.output ≡ (slice_index_or past k no_device).input) code (λ s. ap (λ j. value_before (s ∷ inputs_of past) j) is' ∙ inputs-before past k)

-- ---- integrals, samples, changes, peaks and counters

pub integral-holds : (case : Parts) (x : Device) (step : ℕ) (values : List ℤ) (past : List DeviceState) → x.code ≡ Integral → is_positive false values x.e ≡ false → is_positive true values x.d ≡ false → IfSome (next_state case x step values past) (λ (state : DeviceState). state.output ≡ (newest past).output)
integral-holds case x step values past code kept off = next-has case x Integral step values past (λ (state : DeviceState). state.output ≡ (newest past).output) code (λ s. rw (kept, off) refl)

pub sample-holds : (case : Parts) (x : Device) (step : ℕ) (values : List ℤ) (past : List DeviceState) → x.code ≡ SampleHold → is_positive true values x.d ≡ false → IfSome (next_state case x step values past) (λ (state : DeviceState). state.output ≡ (newest past).output)
sample-holds case x step values past code off = next-has case x SampleHold step values past (λ (state : DeviceState). state.output ≡ (newest past).output) code (λ s. ap (λ b. if b then s else (newest past).output) off)

last-is : (past : List DeviceState) → last_input (inputs_of past) ≡ (newest past).input
last-is [] = refl
last-is (state ∷ past) = refl

no-change : (dt s before : ℤ) → s ≡ before → derivative dt s before ≡ pos 0
no-change dt s before same =
    let none : s -ℤ before ≡ pos 0 = omega (arith, ints, same) in
    ap (λ z. near (z *ℤ PICO) dt) none ∙ near-zero_times PICO dt

pub steady : (case : Parts) (x : Device) (step : ℕ) (values : List ℤ) (past : List DeviceState) → x.code ≡ Derivative → IfSome (next_state case x step values past) (λ (state : DeviceState). state.input ≡ (newest past).input → state.output ≡ pos 0)
steady case x step values past code = next-has case x Derivative step values past (λ (state : DeviceState). state.input ≡ (newest past).input → state.output ≡ pos 0) code (λ s same. no-change case.run.dt s (last_input (inputs_of past)) (same ∙ sym (last-is past)))

later : (step : ℕ) → 2 ≤ step → (step == 1) ≡ false
later step h = grind (arith, nat_tests)

pub peak-stays : (case : Parts) (x : Device) (step : ℕ) (values : List ℤ) (past : List DeviceState) → x.code ≡ PeakHold → pos 0 ≤ℤ x.a → is_positive false values x.d ≡ false → 2 ≤ step → IfSome (next_state case x step values past) (λ (state : DeviceState). (newest past).output ≤ℤ state.output)
peak-stays case x step values past code a off late =
    next-has case x PeakHold step values past (λ (state : DeviceState). (newest past).output ≤ℤ state.output) code (λ s. rw (off, later step late) (extreme-above x.a (newest past).output s a))

pub counter-keeps : (case : Parts) (x : Device) (step : ℕ) (values : List ℤ) (past : List DeviceState) → x.code ≡ Counter → is_positive false values x.d ≡ false → IfSome (next_state case x step values past) (λ (state : DeviceState). state.input ≡ pos 0 → state.output ≡ (newest past).output)
counter-keeps case x step values past code off =
    next-has case x Counter step values past (λ (state : DeviceState). state.input ≡ pos 0 → state.output ≡ (newest past).output) code (λ s none. ap (λ b. if b then pos 0 else (newest past).output +ℤ s) off ∙ (omega (arith, ints, none)))

-- ---- gates

shared : (is_open none : Bool) (b s : ℤ) → (none ≡ true → b ≡ pos 0) → b ≢ pos 0 → (if is_open then s else pos 0) +ℤ (if none then (if is_open then s else pos 0) else (if is_open then pos 0 else s)) ≡ s
shared is_open true b s is some = absurd (some (is refl))
shared true false b s is some = omega (arith, ints)
shared false false b s is some = omega (arith, ints)

pub gates-share : (is_open : Bool) (b s : ℤ) → b ≢ pos 0 → gated is_open (pos 0) s +ℤ gated is_open b s ≡ s
gates-share is_open b s some = shared is_open (int_eq b (pos 0)) b s (Decides-int_eq b (pos 0)).0 some
