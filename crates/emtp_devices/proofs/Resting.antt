-- The devices of record 0.
use Rattle.emtp_case.specs.declared.limit.TheConstants.{MOST_HISTORY_VALUES}
use Rattle.std.proofs.Common.{◌≡◌, ◌∙◌, ap, sym, subst, refl, ℕ, zero, suc, ◌≤◌, max, List, [], ◌∷◌, length, map, replicate, get_or, ℤ, arith}
use Rattle.std.proofs.lemmas.List.{get_or-map, length-map}
use Rattle.std.proofs.lemmas.List.Sums.{get_or-le-sum_by}
use Rattle.std.proofs.lemmas.Option.{slice_get_within, get_or_from_slice_get}
use Rattle.emtp_case.specs.held.Case.{IsCase}
use Rattle.emtp_case.specs.HistoryValues.{device_history_values, extra_history_values}
use Rattle.emtp_case.specs.StepRecord.{no_device, rest_of}
use Rattle.emtp_case.specs.declared.case.Parts.{Parts}
use Rattle.emtp_case.specs.declared.control.Device.{Device}
use Rattle.emtp_case.specs.declared.control.Extra.{Extra}
use Rattle.emtp_case.specs.declared.control.Extra.TheVariants.{Device as OfDevice}
use Rattle.emtp_devices.specs.held.Devices.{AreHeld, IsDeviceAt, StandsFor, device_held}
use Rattle.emtp_devices.specs.held.Held.{DeviceStands, IsHeldOf, depth_of, held_at_rest}
use Rattle.emtp_devices.specs.declared.held.HeldDevice.{HeldDevice}
use Rattle.emtp_devices.proofs.Rings.{rest-held, rest-squares}

-- no card has more history values than the whole case
few_values : (case : Parts) → IsCase case → (at : ℕ) (x : Device) → IsDeviceAt case at x → device_history_values case.run.dt x.code x.a ≤ MOST_HISTORY_VALUES
few_values case h at x is =
    let here : extra_history_values case.run.dt (get_or case.extras at (OfDevice x)) ≤ MOST_HISTORY_VALUES = omega (arith, get_or-le-sum_by (extra_history_values case.run.dt) case.extras at (OfDevice x) (slice_get_within case.extras at (OfDevice x) is), h.draft.counts.history) in
    rw (get_or_from_slice_get case.extras at (OfDevice x) (OfDevice x) is) at here

at_least_one : (n m : ℕ) → n ≤ m → 1 ≤ m → max 1 n ≤ m
at_least_one n m h some = omega (arith, h, some)

one_at_least : (n : ℕ) → 1 ≤ max 1 n
one_at_least n = omega arith

rest_fits : (dt : ℤ) (x : Device) → device_history_values dt x.code x.a ≤ MOST_HISTORY_VALUES → IsHeldOf dt x (held_at_rest (depth_of dt (OfDevice x)))
rest_fits dt x few = record {
  held = rest-held (depth_of dt (OfDevice x)) (one_at_least (device_history_values dt x.code x.a)) (at_least_one (device_history_values dt x.code x.a) MOST_HISTORY_VALUES few (omega arith));
  depth = refl;
  squares = λ effective. sym (rest-squares (depth_of dt (OfDevice x)));
}

-- the device at a place of those at rest
rest_read : (case : Parts) (at : ℕ) (x : Device) → IsDeviceAt case at x → device_held (map (λ e. held_at_rest (depth_of case.run.dt e)) case.extras) at ≡ held_at_rest (depth_of case.run.dt (OfDevice x))
rest_read case at x is =
    get_or-map (λ (e : Extra). held_at_rest (depth_of case.run.dt e)) case.extras at (OfDevice x) (held_at_rest 1) (slice_get_within case.extras at (OfDevice x) is)
    ∙ ap (λ (e : Extra). held_at_rest (depth_of case.run.dt e)) (get_or_from_slice_get case.extras at (OfDevice x) (OfDevice x) is)

pub rest_are_held : (case : Parts) (held : List HeldDevice) → IsCase case → held ≡ map (λ e. held_at_rest (depth_of case.run.dt e)) case.extras → AreHeld case held
rest_are_held case held h are = rw are (record {
  one_each = length-map case.extras (λ (e : Extra). held_at_rest (depth_of case.run.dt e));
  fit = λ at x is. subst (IsHeldOf case.run.dt x) (sym (rest_read case at x is)) (rest_fits case.run.dt x (few_values case h at x is));
})

rest_stands : (k : ℕ) → DeviceStands (held_at_rest k) (no_device ∷ [])
rest_stands k = record { output = refl; inputs = refl }

-- of record 0 all numbers are 0
rest_states : (n at : ℕ) → get_or (replicate n no_device) at no_device ≡ no_device
rest_states zero at = refl
rest_states (suc n) zero = refl
rest_states (suc n) (suc at) = rest_states n at

pub rest_stands_for : {capacities : List ℕ} (case : Parts) (held : List HeldDevice) → held ≡ map (λ e. held_at_rest (depth_of case.run.dt e)) case.extras → StandsFor (record { case = case; held = held; capacities = capacities }) (rest_of case ∷ [])
rest_stands_for case held are at x is = record {
  there = omega (arith, ap length are, length-map case.extras (λ (e : Extra). held_at_rest (depth_of case.run.dt e)), slice_get_within case.extras at (OfDevice x) is);
  stands = subst (λ state. DeviceStands (device_held held at) (state ∷ [])) (sym (rest_states (length case.extras) at))
      (subst (λ (h : HeldDevice). DeviceStands h (no_device ∷ [])) (sym (ap (λ hs. device_held hs at) are ∙ rest_read case at x is)) (rest_stands (depth_of case.run.dt (OfDevice x))));
}
