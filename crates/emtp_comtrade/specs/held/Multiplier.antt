-- Beside `Multiplier`: what values hold for their proofs, and what premises say. No clause of the program reaches it.
use Rattle.std.specs.Prelude.{◌≡◌, ◌⊎◌, ℕ, ◌*◌, ◌^◌, ◌≤◌, ℤ, pos, ◌-ℤ◌, ◌*ℤ◌, unsigned_abs}
use Rattle.emtp_fix.specs.Rounding.{near}

-- 1, 2 or 5 times a power of ten
pub record IsOneTwoFive (step : ℕ) : Type 0 where
  pub power : ℕ
  pub factor : ℕ
  pub one_two_five : (factor ≡ 1) ⊎ (factor ≡ 2) ⊎ (factor ≡ 5)
  pub value : step ≡ factor * 10 ^ power

-- the least step by which so great a magnitude is held in 16 bits
pub record IsMultiplier (greatest multiplier : ℕ) : Type 0 where
  pub step : IsOneTwoFive multiplier
  pub holds : greatest ≤ 32767 * multiplier
  pub least : (other : ℕ) → IsOneTwoFive other → greatest ≤ 32767 * other → multiplier ≤ other

-- the raw value, which is the nearest whole number of multipliers, lies at most half a multiplier from the value, and
-- within the range that the configuration declares
pub record IsHeld (value : ℤ) (multiplier : ℕ) : Type 0 where
  pub close : 2 * unsigned_abs (value -ℤ near value (pos multiplier) *ℤ pos multiplier) ≤ multiplier
  pub within : unsigned_abs (near value (pos multiplier)) ≤ 32767
