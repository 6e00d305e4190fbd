-- The ring of a device's last inputs.
use Rattle.emtp_case.specs.declared.limit.TheConstants.{MOST_HISTORY_VALUES}
use Rattle.std.proofs.Common.{◌≡◌, ◌∙◌, ap, sym, refl, ℕ, zero, suc, ◌+◌, ◌-◌, ◌*◌, ◌^◌, ◌≤◌, ◌≤ℤ◌, ◌+ℤ◌, ℤ, max, List, [], ◌∷◌, All, pos, unsigned_abs, length, take, arith}
use Rattle.std.proofs.lemmas.Int.{ints}
use Rattle.std.proofs.lemmas.List.{length-take}
use Rattle.std.proofs.lemmas.List.Elements.{All-take}
use Rattle.emtp_case.specs.HistoryValues.{delay_steps, device_history_values, period_steps}
use Rattle.emtp_case.specs.declared.control.Device.{Device}
use Rattle.emtp_case.specs.declared.control.DeviceCode.{DeviceCode}
use Rattle.emtp_case.specs.declared.control.DeviceCode.TheVariants.{Delay, DelayedPulse, EffectiveValue}
use Rattle.emtp_devices.specs.Device.{square, sum_of_squares}
use Rattle.emtp_devices.specs.held.Held.{IsHeld, IsHeldOf, held_at_rest}
use Rattle.emtp_devices.specs.declared.held.HeldDevice.{HeldDevice}
use Rattle.emtp_devices.proofs.Squares.{square-zero, squares-exchanged, squares-nonneg, squares-small}
use Rattle.emtp_fix.specs.declared.limit.TheConstants.{LARGEST_VALUE}
use Rattle.emtp_hist.specs.History.{value_before}
use Rattle.emtp_hist.specs.held.History.{Remembers}

-- it holds no more than its depth
pub ring-short : (h : HeldDevice) → IsHeld h → length h.inputs.values ≤ h.depth
ring-short h held = omega (arith, ap length held.itself, length-take h.inputs.depth h.inputs.values, held.ring)

small-with : (s : ℤ) (xs : List ℤ) → unsigned_abs s ≤ LARGEST_VALUE → All (λ s. unsigned_abs s ≤ LARGEST_VALUE) xs → All (λ s. unsigned_abs s ≤ LARGEST_VALUE) (s ∷ xs)
small-with s xs small all zero d there = small
small-with s xs small all (suc i) d there = all i d (omega (arith, there))

-- with one more input it is in range
pub pushed-small : (k : ℕ) (s : ℤ) (xs : List ℤ) → unsigned_abs s ≤ LARGEST_VALUE → All (λ s. unsigned_abs s ≤ LARGEST_VALUE) xs → All (λ s. unsigned_abs s ≤ LARGEST_VALUE) (take k (s ∷ xs))
pushed-small k s xs small all = All-take (λ s. unsigned_abs s ≤ LARGEST_VALUE) k (s ∷ xs) (small-with s xs small all)

pub pushed-squares : (k : ℕ) (s : ℤ) (xs : List ℤ) → unsigned_abs s ≤ LARGEST_VALUE → All (λ s. unsigned_abs s ≤ LARGEST_VALUE) xs → unsigned_abs (sum_of_squares (take k (s ∷ xs))) ≤ k * 10 ^ 27
pushed-squares k s xs small all = omega (arith, squares-small (take k (s ∷ xs)) (pushed-small k s xs small all), length-take k (s ∷ xs))

take-twice : (j k : ℕ) (xs : List ℤ) → j ≤ k → take j (take k xs) ≡ take j xs
take-twice zero k xs h = refl
take-twice (suc j) zero xs h = absurd (omega (arith, h))
take-twice (suc j) (suc k) [] h = refl
take-twice (suc j) (suc k) (x ∷ xs) h = ap (λ ys. x ∷ ys) (take-twice j k xs (omega (arith, h)))

-- one more input before those of the ring, or before all
pub take-pushed : (k : ℕ) (s : ℤ) (xs : List ℤ) → take k (s ∷ take k xs) ≡ take k (s ∷ xs)
take-pushed zero s xs = refl
take-pushed (suc j) s xs = ap (λ ys. s ∷ ys) (take-twice j (suc j) xs (omega arith))

no-squares : (k : ℕ) → sum_of_squares (take k []) ≡ pos 0
no-squares zero = refl
no-squares (suc k) = refl

-- at rest the running sum is 0
pub rest-squares : (k : ℕ) → sum_of_squares (take k (pos 0 ∷ [])) ≡ pos 0
rest-squares zero = refl
rest-squares (suc k) = ap (λ z. z +ℤ sum_of_squares (take k [])) square-zero ∙ ap (λ z. pos 0 +ℤ z) (no-squares k)

pub rest-held : (k : ℕ) → 1 ≤ k → k ≤ MOST_HISTORY_VALUES → IsHeld (held_at_rest k)
rest-held k some few = record {
  some = some;
  few = few;
  ring = refl;
  itself = sym (take-twice k k (pos 0 ∷ []) (omega arith));
  output_small = omega arith;
  inputs_small = pushed-small k (pos 0) [] (omega arith) (λ i d there. absurd (omega (arith, there)));
}

-- ---- the running sum of an effective value

pub sum-small : (h : HeldDevice) → IsHeld h → h.squares ≡ sum_of_squares h.inputs.values → unsigned_abs h.squares ≤ 2 * 10 ^ 33
sum-small h held is = omega (arith, ap unsigned_abs is, ring-short h held, squares-small h.inputs.values held.inputs_small, held.few)

-- where the square of an input came and that of the oldest went
pub sum-after : (h : HeldDevice) (s r : ℤ) → IsHeld h → h.squares ≡ sum_of_squares h.inputs.values → r +ℤ square (value_before h.inputs.values (h.depth - 1)) ≡ h.squares +ℤ square s → r ≡ sum_of_squares (take h.depth (s ∷ h.inputs.values))
sum-after h s r held is moved = omega (arith, ints, moved, squares-exchanged h.depth s h.inputs.values held.some (ring-short h held), is)

pub record IsSum (h : HeldDevice) (s r : ℤ) : Type 0 where
  pub is : r ≡ sum_of_squares (take h.depth (s ∷ h.inputs.values))
  pub least : pos 0 ≤ℤ r
  pub most : unsigned_abs r ≤ h.depth * 10 ^ 27
  pub small : unsigned_abs r ≤ 2 * 10 ^ 33

pub sum-is : (h : HeldDevice) (s r : ℤ) → IsHeld h → unsigned_abs s ≤ LARGEST_VALUE → r ≡ sum_of_squares (take h.depth (s ∷ h.inputs.values)) → IsSum h s r
sum-is h s r held small is =
    let most : unsigned_abs r ≤ h.depth * 10 ^ 27 = omega (arith, ap unsigned_abs is, pushed-squares h.depth s h.inputs.values small held.inputs_small) in
    record {
      is = is;
      least = omega (arith, ints, is, squares-nonneg (take h.depth (s ∷ h.inputs.values)));
      most = most;
      small = omega (arith, most, held.few);
    }

-- the ring with one more input is that of all inputs with it
pub ring-pushed : (h : HeldDevice) (s : ℤ) (inputs : List ℤ) → IsHeld h → Remembers h.inputs inputs → take h.depth (s ∷ h.inputs.values) ≡ take h.depth (s ∷ inputs)
ring-pushed h s inputs held past =
    ap (λ xs. take h.depth (s ∷ xs)) (past ∙ ap (λ k. take k inputs) held.ring) ∙ take-pushed h.depth s inputs

-- ---- how deep the ring of a device is, by its code

depth-of_code : (dt : ℤ) (x : Device) (h : HeldDevice) (code : DeviceCode) → IsHeldOf dt x h → x.code ≡ code → h.depth ≡ max 1 (device_history_values dt code x.a)
depth-of_code dt x h code held e = held.depth ∙ ap (λ (k : DeviceCode). max 1 (device_history_values dt k x.a)) e

pub delay-depth : (dt : ℤ) (x : Device) (h : HeldDevice) → IsHeldOf dt x h → x.code ≡ Delay → h.depth ≡ delay_steps dt x.a + 1
delay-depth dt x h held e = omega (arith, depth-of_code dt x h Delay held e)

pub pulse-depth : (dt : ℤ) (x : Device) (h : HeldDevice) → IsHeldOf dt x h → x.code ≡ DelayedPulse → h.depth ≡ delay_steps dt x.a + 1
pulse-depth dt x h held e = omega (arith, depth-of_code dt x h DelayedPulse held e)

pub period-depth : (dt : ℤ) (x : Device) (h : HeldDevice) → IsHeldOf dt x h → x.code ≡ EffectiveValue → h.depth ≡ period_steps dt x.a
period-depth dt x h held e = omega (arith, depth-of_code dt x h EffectiveValue held e)
