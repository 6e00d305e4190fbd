-- What the equations read, and the state that they give.
use Rattle.std.proofs.Common.{◌≡◌, ◌∙◌, ap, refl, ℕ, ◌<◌, ℤ, List, [], ◌∷◌, length, drop, get_or, Some, None, arith}
use Rattle.std.specs.List.{fold}
use Rattle.emtp_case.specs.declared.case.Parts.{Parts}
use Rattle.emtp_case.specs.declared.control.Device.{Device}
use Rattle.emtp_case.specs.declared.control.DeviceState.{DeviceState}
use Rattle.emtp_case.specs.declared.control.Input.{Input}
use Rattle.emtp_devices.specs.Device.{brought, brought_sum, extreme, extreme_of_two, next_state, output_by, reading_of}
use Rattle.emtp_fix.specs.Limit.{in_range, ◌>>=◌}

-- the extreme of the first input and the others
pub extreme-is : (a : ℤ) (values : List ℤ) (inputs : List Input) (d : Input) → 0 < length inputs → fold (λ z i. extreme_of_two a z (brought values i)) (brought values (get_or inputs 0 d)) (drop 1 inputs) ≡ extreme a values inputs
extreme-is a values [] d some = absurd (omega (arith, some))
extreme-is a values (i ∷ inputs) d some = refl

-- both numbers are in range
pub next-some : (case : Parts) (x : Device) (step : ℕ) (values : List ℤ) (past : List DeviceState) (s y : ℤ) → in_range (brought_sum values x.inputs) ≡ Some s → in_range (output_by case x (reading_of step values past s) x.code) ≡ Some y → next_state case x step values past ≡ Some (record { input = s; output = y })
unfolding next_state
next-some case x step values past s y e e' =
    ap (λ o. o >>= (λ s. in_range (output_by case x (reading_of step values past s) x.code) >>= (λ y. Some (record { input = s; output = y })))) e
    ∙ ap (λ o. o >>= (λ y. Some (record { input = s; output = y }))) e'

pub next-out : (case : Parts) (x : Device) (step : ℕ) (values : List ℤ) (past : List DeviceState) (s : ℤ) → in_range (brought_sum values x.inputs) ≡ Some s → in_range (output_by case x (reading_of step values past s) x.code) ≡ None → next_state case x step values past ≡ None
unfolding next_state
next-out case x step values past s e e' =
    ap (λ o. o >>= (λ s. in_range (output_by case x (reading_of step values past s) x.code) >>= (λ y. Some (record { input = s; output = y })))) e
    ∙ ap (λ o. o >>= (λ y. Some (record { input = s; output = y }))) e'
