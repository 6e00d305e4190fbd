-- The states of the switches, moved one after another.
use Rattle.std.proofs.Common.{◌≡◌, ◌≢◌, ℕ, ◌+◌, ◌<◌, ◌≤◌, ℤ, ◌-ℤ◌, Bool, true, false, List, length, map, slice_set, length-set, refl, ap, sym, ◌∙◌, inl, inr, arith}
use Rattle.std.specs.List.{range_with_len}
use Rattle.std.proofs.lemmas.List.{ext_get_or, get_or-set_same, get_or-set_other}
use Rattle.std.proofs.lemmas.List.FromFn.{length-map-range_with_len, get_or-map-range_with_len}
use Rattle.std.proofs.lemmas.Bool.{cases_Bool, cases_eq, true≢false}
use Rattle.emtp_case.specs.RunData.{time_of}
use Rattle.emtp_case.specs.StepRecord.{StepRecord, latest}
use Rattle.emtp_case.specs.declared.case.Parts.{Parts}
use Rattle.emtp_case.specs.declared.switch.Switch.{Switch}
use Rattle.emtp_case.specs.declared.switch.SwitchState.{SwitchState}
use Rattle.emtp_case.specs.declared.switch.SwitchState.TheVariants.{Waiting}
use Rattle.emtp_switch.specs.Groups.{state_at}
use Rattle.emtp_fix.specs.Items.{item}
use Rattle.emtp_switch.specs.States.{control_of, is_on, next_state, next_states, view_of}
use Rattle.emtp_switch.specs.held.Switching.{AreKept, AreLatest}
use Rattle.emtp_switch.specs.declared.states.View.{View}

-- a switch before s has another state than at first
abbrev pub OneDiffers : List SwitchState → List SwitchState → ℕ → Type 0
OneDiffers start states s = (k : ℕ) × (k < s) × (state_at states k ≢ state_at start k)

-- the switches before s have moved to their next states after the records that fit, and the others have not
pub record AreMoved (p : Parts) (Fits : List StepRecord → Type 0) (start states : List SwitchState) (s : ℕ) (changed : Bool) : Type 0 where
  pub size : length states ≡ length start
  pub moved : (H : List StepRecord) → Fits H → (k : ℕ) → k < s → state_at states k ≡ next_state p H k
  pub others : (k : ℕ) → s ≤ k → state_at states k ≡ state_at start k
  pub same : changed ≡ false → states ≡ start
  pub other : changed ≡ true → OneDiffers start states s

pub none_moved : (p : Parts) (Fits : List StepRecord → Type 0) (start : List SwitchState) → AreMoved p Fits start start 0 false
none_moved p Fits start = record {
  size = refl;
  moved = λ H fits k below. absurd (omega arith);
  others = λ k above. refl;
  same = λ h. refl;
  other = λ h. absurd (true≢false (sym h));
}

pub moved_more : (p : Parts) (Fits : List StepRecord → Type 0) (start states new : List SwitchState) (s : ℕ) (state : SwitchState) (changed replaced now : Bool) → AreMoved p Fits start states s changed → s < length states
    → ((H : List StepRecord) → Fits H → state_at states s ≡ state_at start s → state ≡ next_state p H s)
    → new ≡ slice_set states s state → (replaced ≡ false → new ≡ states) → (replaced ≡ true → state_at states s ≢ state)
    → (replaced ≡ false → now ≡ changed) → (replaced ≡ true → now ≡ true) → AreMoved p Fits start new (s + 1) now
moved_more p Fits start states new s state changed replaced now was inside is new_is kept differs as_before as_true = record {
  size = ap length new_is ∙ length-set states s state ∙ was.size;
  moved = λ H fits k below. elim (cases_eq k s) [
    | inl here ↦ rw here (here_is ∙ is H fits (was.others s (omega arith)))
    | inr ne ↦ there_is k ne ∙ was.moved H fits k (omega arith)
  ];
  others = λ k above. there_is k (omega arith) ∙ was.others k (omega arith);
  same = λ h. elim (cases_Bool replaced) [
    | inl on ↦ absurd (true≢false (sym (as_true on) ∙ h))
    | inr off ↦ kept off ∙ was.same (sym (as_before off) ∙ h)
  ];
  other = λ h. elim (cases_Bool replaced) [
    | inl on ↦ (s, omega arith, λ e. differs on (was.others s (omega arith) ∙ sym e ∙ here_is))
    | inr off ↦ let (k, below, ne) = was.other (sym (as_before off) ∙ h) in (k, omega arith, λ e. ne (ap (λ l. state_at l k) (sym (kept off)) ∙ e))
  ];
}
  where
    here_is : state_at new s ≡ state
    here_is = ap (λ l. state_at l s) new_is ∙ get_or-set_same states s state Waiting inside

    there_is : (k : ℕ) → k ≢ s → state_at new k ≡ state_at states k
    there_is k ne = ap (λ l. state_at l k) new_is ∙ get_or-set_other states s k state Waiting ne

-- after the last of them
pub all_moved : (p : Parts) (Fits : List StepRecord → Type 0) (start states : List SwitchState) (s : ℕ) (changed : Bool) → AreMoved p Fits start states s changed → length start ≡ length p.switches → length p.switches ≤ s
    → (H : List StepRecord) → Fits H → states ≡ next_states p H
all_moved p Fits start states s changed was count past H fits =
    let f = next_state p H in
    let n = length p.switches in
    ext_get_or Waiting states (map f (range_with_len 0 n)) (was.size ∙ count ∙ sym (length-map-range_with_len f 0 n)) (λ i below.
    was.moved H fits i (omega (arith, was.size)) ∙ sym (get_or-map-range_with_len f 0 n i i Waiting (omega (arith, was.size)) (omega arith)))

-- what a switch sees, by the lists of the last records
pub view_is : (p : Parts) (H : List StepRecord) (x : Switch) (s step : ℕ) (states : List SwitchState) (voltages currents before values : List ℤ) (v : View) → AreKept states before H → AreLatest step voltages currents values H
    → s < length before → v.time ≡ time_of p.run step → v.current ≡ item currents s → v.before ≡ item before s → v.voltage ≡ item voltages x.from -ℤ item voltages x.to → v.on ≡ is_on (control_of x.kind) (latest H)
    → v ≡ view_of p H x s
view_is p H x s step states voltages currents before values v kept is inside t i b u o =
    made v (t ∙ ap (time_of p.run) is.step_is) (i ∙ ap (λ l. item l s) is.currents_are) (b ∙ kept.before_are s inside) (u ∙ ap (λ l. item l x.from -ℤ item l x.to) is.voltages_are) o
  where
    made : (v : View) → {w : View} → v.time ≡ w.time → v.current ≡ w.current → v.before ≡ w.before → v.voltage ≡ w.voltage → v.on ≡ w.on → v ≡ w
    made v {w} p q r s t = rw (← p, ← q, ← r, ← s, ← t) refl
