-- What the list of held devices says of one of them.
use Rattle.std.proofs.Common.{◌≡◌, ◌≢◌, ◌∙◌, ap, sym, subst, refl, inl, inr, ℕ, ◌<◌, List, ◌∷◌, length, get_or, slice_set, Option, Some, None, Result, Ok, Err, IfOk, OnErr, ℤ, arith}
use Rattle.std.proofs.lemmas.Bool.{cases_eq}
use Rattle.std.proofs.lemmas.List.{get_or_default, get_or-set_same, get_or-set_other, set-get_or}
use Rattle.std.proofs.lemmas.Option.{slice_get_within, get_or_from_slice_get}
use Rattle.std.proofs.Math.ListN.{length-set}
use Rattle.std.proofs.Math.Seq.{map-set_same}
use Rattle.emtp_case.specs.held.Case.{IsCase}
use Rattle.emtp_case.specs.held.Control.{IsDevice, IsExtra}
use Rattle.emtp_case.specs.held.Sizes.{sizes_of}
use Rattle.emtp_case.specs.declared.case.Parts.{Parts}
use Rattle.emtp_case.specs.declared.control.Device.{Device}
use Rattle.emtp_case.specs.declared.control.DeviceState.{DeviceState}
use Rattle.emtp_case.specs.declared.control.Extra.{Extra}
use Rattle.emtp_case.specs.declared.control.Extra.TheVariants.{Device as OfDevice, Formula as OfFormula}
use Rattle.emtp_devices.specs.Device.{next_state}
use Rattle.emtp_devices.specs.held.Devices.{AreHeld, HeldDevices, IsDeviceAt, Moves, StandsAt, capacities_of, device_held}
use Rattle.emtp_devices.specs.held.Held.{DeviceMoved, DeviceStands, IsHeldOf, held_at_rest}
use Rattle.emtp_devices.specs.declared.held.HeldDevice.{HeldDevice}
use Rattle.emtp_fix.specs.declared.limit.OutOfRange.{OutOfRange}

-- what a contract sees of these devices, in a list of this capacity
abbrev pub shown : Parts → ℕ → List HeldDevice → HeldDevices
shown case n held = record { case = case; held = held; capacities = capacities_of n held }

-- ---- a device read

-- a device of the case that is seen is one of the case that is held
pub at_seen : {n : ℕ} (case : Parts) (held : List HeldDevice) (s : HeldDevices) (at : ℕ) (x : Device) → shown case n held ≡ s → IsDeviceAt s.case at x → IsDeviceAt case at x
at_seen case held s at x same is = subst (λ (t : HeldDevices). IsDeviceAt t.case at x) (sym same) is

-- the card that an index read
card_read : (case : Parts) (at : ℕ) (x : Device) (e d : Extra) → IsDeviceAt case at x → e ≡ get_or case.extras at d → e ≡ OfDevice x
card_read case at x e d is read = read ∙ get_or_from_slice_get case.extras at (OfDevice x) d is

pub card_fits : (case : Parts) (at : ℕ) (x : Device) → IsCase case → IsDeviceAt case at x → IsDevice (sizes_of case) case.points x
card_fits case at x h is =
    subst (IsExtra (sizes_of case) case.points) (get_or_from_slice_get case.extras at (OfDevice x) (OfDevice x) is) (h.draft.control.extras at (OfDevice x) (slice_get_within case.extras at (OfDevice x) is))

one_card : (x y : Device) → OfDevice x ≡ OfDevice y → x ≡ y
one_card x y e = ap card_or e
  where
    card_or : Extra → Device
    card_or (OfDevice z) = z
    card_or (OfFormula z) = x

-- the card that an index read and a match took for a device
pub card_is : {n : ℕ} (case : Parts) (held : List HeldDevice) (s : HeldDevices) (at : ℕ) (x y : Device) (e : Extra) → shown case n held ≡ s → IsDeviceAt s.case at x → e ≡ get_or case.extras at e → e ≡ OfDevice y → y ≡ x
card_is case held s at x y e same is read arm = one_card y x (sym arm ∙ card_read case at x e e (at_seen case held s at x same is) read)

pub one_device : (case : Parts) (at : ℕ) (x y : Device) → IsDeviceAt case at x → IsDeviceAt case at y → x ≡ y
one_device case at x y is is' = ap card_or (sym is ∙ is')
  where
    card_or : Option Extra → Device
    card_or None = x
    card_or (Some (OfDevice z)) = z
    card_or (Some (OfFormula z)) = x

pub there : (case : Parts) (held : List HeldDevice) (at : ℕ) (x : Device) → AreHeld case held → IsDeviceAt case at x → at < length held
there case held at x h is = omega (arith, h.one_each, slice_get_within case.extras at (OfDevice x) is)

-- what an index read is the device at the place
pub held_read : (held : List HeldDevice) (at : ℕ) (r : HeldDevice) → at < length held → r ≡ get_or held at r → r ≡ device_held held at
held_read held at r within e = e ∙ get_or_default held at r (held_at_rest 1) within

pub held_fits : (case : Parts) (held : List HeldDevice) (at : ℕ) (x : Device) (r : HeldDevice) → AreHeld case held → IsDeviceAt case at x → r ≡ get_or held at r → IsHeldOf case.run.dt x r
held_fits case held at x r h is e = subst (IsHeldOf case.run.dt x) (sym (held_read held at r (there case held at x h is) e)) (h.fit at x is)

-- ---- a device written

pub held_set : (case : Parts) (held : List HeldDevice) (at : ℕ) (x : Device) (new : HeldDevice) → AreHeld case held → IsDeviceAt case at x → IsHeldOf case.run.dt x new → AreHeld case (slice_set held at new)
held_set case held at x new h is fits = record {
  one_each = length-set held at new ∙ h.one_each;
  fit = λ k y is'. elim (cases_eq k at) [
    | inl e ↦
        let here : IsDeviceAt case at y = subst (λ (j : ℕ). IsDeviceAt case j y) e is' in
        let same : device_held (slice_set held at new) k ≡ new = ap (device_held (slice_set held at new)) e ∙ get_or-set_same held at new (held_at_rest 1) (there case held at x h is) in
        subst (IsHeldOf case.run.dt y) (sym same) (subst (λ (z : Device). IsHeldOf case.run.dt z new) (one_device case at x y is here) fits)
    | inr ne ↦ subst (IsHeldOf case.run.dt y) (sym (get_or-set_other held at k new (held_at_rest 1) ne)) (h.fit k y is')
  ];
}

stands-set : {n : ℕ} (case : Parts) (held : List HeldDevice) (at : ℕ) (new : HeldDevice) (past : List DeviceState) → at < length held → DeviceStands new past → StandsAt (shown case n (slice_set held at new)) at past
stands-set case held at new past within stands = record {
  there = omega (arith, length-set held at new, within);
  stands = subst (λ (h : HeldDevice). DeviceStands h past) (sym (get_or-set_same held at new (held_at_rest 1) within)) stands;
}

stands-other : {n : ℕ} (case : Parts) (held : List HeldDevice) (at k : ℕ) (new : HeldDevice) (past : List DeviceState) → k ≢ at → StandsAt (shown case n held) k past → StandsAt (shown case n (slice_set held at new)) k past
stands-other case held at k new past apart stands = record {
  there = omega (arith, length-set held at new, stands.there);
  stands = subst (λ (h : HeldDevice). DeviceStands h past) (sym (get_or-set_other held at k new (held_at_rest 1) apart)) stands.stands;
}

-- a device whose ring keeps its capacity leaves all capacities
pub capacities-set : (n : ℕ) (held : List HeldDevice) (at : ℕ) (new : HeldDevice) → new.inputs.depth ≡ (device_held held at).inputs.depth → capacities_of n (slice_set held at new) ≡ capacities_of n held
capacities-set n held at new same = ap (λ (rings : List ℕ). n ∷ rings) (map-set_same (λ (h : HeldDevice). h.inputs.depth) held at new (held_at_rest 1) same)

-- both rings of a device that was moved are of its depth
pub ring_kept : (dt : ℤ) (x : Device) (old new : HeldDevice) → IsHeldOf dt x old → IsHeldOf dt x new → new.inputs.depth ≡ old.inputs.depth
ring_kept dt x old new was is = is.held.ring ∙ is.depth ∙ sym (was.held.ring ∙ was.depth)

-- ---- a device moved

-- a device's step among all devices is its own step
pub moves : {n : ℕ} (case : Parts) (held : List HeldDevice) (at step : ℕ) (values : List ℤ) (result : Result ℤ OutOfRange) (x : Device) (old new : HeldDevice) → AreHeld case held → IsDeviceAt case at x → old ≡ get_or held at old
    → ((past : List DeviceState) → DeviceStands old past → IfOk result (DeviceMoved new past (next_state case x step values past)))
    → ((past : List DeviceState) → DeviceStands old past → OnErr result (next_state case x step values past ≡ None))
    → OnErr result (new ≡ old)
    → Moves (shown case n held) (shown case n (slice_set held at new)) at step values result
moves case held at step values (Ok y) x old new h is read moved out same =
    let within = there case held at x h is in
    record {
      case = refl;
      moved = λ x' past is' stands.
          let m = moved past (subst (λ (k : HeldDevice). DeviceStands k past) (sym (held_read held at old within read)) stands.stands) in
          record {
            state = m.state;
            is = ap (λ (z : Device). next_state case z step values past) (one_device case at x' x is' is) ∙ m.is;
            output = m.output;
            stands = stands-set case held at new (m.state ∷ past) within m.stands;
          };
      out = λ x' past is' stands. tt;
      others = λ k past apart stands. stands-other case held at k new past apart stands;
      same = tt;
    }
moves {n = n} case held at step values (Err e) x old new h is read moved out same =
    let within = there case held at x h is in
    let unmoved : slice_set held at new ≡ held = ap (slice_set held at) (same ∙ held_read held at old within read) ∙ set-get_or held at (held_at_rest 1) in
    record {
      case = refl;
      moved = λ x' past is' stands. tt;
      out = λ x' past is' stands. ap (λ (z : Device). next_state case z step values past) (one_device case at x' x is' is) ∙ out past (subst (λ (k : HeldDevice). DeviceStands k past) (sym (held_read held at old within read)) stands.stands);
      others = λ k past apart stands. stands-other case held at k new past apart stands;
      same = ap (λ (hs : List HeldDevice). shown case n hs) unmoved;
    }
