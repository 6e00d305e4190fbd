-- A multiplier that holds the greatest magnitude holds each value.
use Rattle.std.proofs.Common.{◌≢◌, inl, inr, ℕ, zero, suc, ◌*◌, ◌<◌, ◌≤◌, ℤ, pos, unsigned_abs, List, arith, ap}
use Rattle.std.proofs.lemmas.Bool.{cases_order}
use Rattle.std.proofs.Math.Nat.{mul-le-mul_right}
use Rattle.emtp_fix.specs.Rounding.{near_abs}
use Rattle.emtp_fix.proofs.Nearest.{near_abs-low, near-rest, unsigned_abs-near}
use Rattle.emtp_machine.specs.Samples.{value_at, greatest}
use Rattle.emtp_comtrade.specs.held.Multiplier.{IsMultiplier, IsHeld}
use Rattle.emtp_comtrade.proofs.LeastMultiplier.{multiplier-positive}

-- no value exceeds the greatest magnitude
pub value-greatest : (rows : List (List ℤ)) (channel sample n : ℕ) → sample < n
    → unsigned_abs (value_at rows sample channel) ≤ greatest rows channel n
value-greatest rows channel sample zero less = absurd (omega arith)
value-greatest rows channel sample (suc n) less =
    elim (cases_order sample n) as (λ _. unsigned_abs (value_at rows sample channel) ≤ greatest rows channel (suc n)) [
      | inl same ↦ omega (arith, ap (λ (k : ℕ). unsigned_abs (value_at rows k channel)) same)
      | inr order ↦ elim order as (λ _. unsigned_abs (value_at rows sample channel) ≤ greatest rows channel (suc n)) [
        | inl below ↦ omega (arith, value-greatest rows channel sample n below)
        | inr above ↦ absurd (omega arith)
      ]
    ]

quotient-within : (n d : ℕ) → 0 < d → n ≤ 32767 * d → near_abs n d ≤ 32767
quotient-within n d positive holds = elim (cases_order (near_abs n d) 32768) as (λ _. near_abs n d ≤ 32767) [
  | inl same ↦
      let step : 32768 * d ≤ near_abs n d * d = mul-le-mul_right d (omega arith) in
      absurd (omega (arith, near_abs-low n d positive))
  | inr (inl less) ↦ omega arith
  | inr (inr more) ↦
      let step : 32768 * d ≤ near_abs n d * d = mul-le-mul_right d (omega arith) in
      absurd (omega (arith, near_abs-low n d positive))
]

-- a value below the greatest magnitude is held
pub value-held : (greatest multiplier : ℕ) (value : ℤ) → IsMultiplier greatest multiplier → unsigned_abs value ≤ greatest
    → IsHeld value multiplier
value-held greatest multiplier value is within =
    let positive = multiplier-positive greatest multiplier is in
    let nonzero : pos multiplier ≢ pos 0 = λ zero. absurd (omega (arith, ap unsigned_abs zero)) in
    record {
      close = near-rest value (pos multiplier) nonzero;
      within = omega (arith, unsigned_abs-near value (pos multiplier), quotient-within (unsigned_abs value) multiplier positive (omega (arith, is.holds)));
    }
