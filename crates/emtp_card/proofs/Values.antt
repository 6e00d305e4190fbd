-- The value of a decimal is its magnitude with its sign.
use Rattle.std.proofs.Common.{◌≡◌, ◌∙◌, sym, ap, ℕ, zero, suc, ◌+◌, ◌^◌, ◌<◌, ◌≤◌, ℤ, pos, negsuc, neg_ℤ, ◌+ℤ◌, Bool, true, false, refl, arith, zero-mul}
use Rattle.std.proofs.lemmas.Int.{ints}
use Rattle.emtp_fix.proofs.Nearest.{near-neg, near-from_zero}
use Rattle.emtp_card.specs.Decimal.{Decimal, signed, times_power, value_in}
use Rattle.emtp_card.specs.held.Rounding.{scaled, magnitude_in}
use Rattle.emtp_card.specs.held.Number.{StandsFor}
use Rattle.emtp_card.specs.declared.rounding.TheConstants.{MOST}

-- times a power of ten, rounded
times_power-signed : (negative : Bool) (n : ℕ) (power : ℤ) → times_power (signed negative n) power ≡ signed negative (scaled n power)
times_power-signed false n (pos places) = refl
times_power-signed true zero (pos places) = ap pos (zero-mul (10 ^ places)) ∙ sym (ap (λ (k : ℕ). neg_ℤ (pos k)) (zero-mul (10 ^ places)))
times_power-signed true (suc n) (pos places) = refl
times_power-signed false n (negsuc places) = near-from_zero (pos n) (10 ^ suc places) (omega (arith, ints))
times_power-signed true n (negsuc places) = near-neg (pos n) (pos (10 ^ suc places)) ∙ ap neg_ℤ (near-from_zero (pos n) (10 ^ suc places) (omega (arith, ints)))

pub value_in-signed : (scale : ℤ) (decimal : Decimal) → value_in scale decimal ≡ signed decimal.negative (magnitude_in scale decimal)
unfolding value_in
value_in-signed scale decimal = times_power-signed decimal.negative decimal.digits (decimal.power +ℤ scale)

-- a magnitude that is bounded by one more than any limit
pub bounded_stands : (negative : Bool) (magnitude bounded : ℕ) → (magnitude ≤ MOST → bounded ≡ magnitude) → (MOST < magnitude → bounded ≡ MOST + 1) → StandsFor (signed negative bounded) (signed negative magnitude)
bounded_stands true magnitude bounded small great = record {
  exact = λ h. ap (signed true) (small (omega (arith, ints, h)));
  above = λ h. omega (arith, ints, h);
  below = λ h. omega (arith, ints, great (omega (arith, ints, h)));
}
bounded_stands false magnitude bounded small great = record {
  exact = λ h. ap (signed false) (small (omega (arith, ints, h)));
  above = λ h. omega (arith, ints, great (omega (arith, ints, h)));
  below = λ h. omega (arith, ints, h);
}
