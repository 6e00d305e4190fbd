-- Decimal numbers, and what they are in a unit.
use Rattle.std.specs.Prelude.{ℕ, suc, ◌+◌, ◌-◌, ◌*◌, ◌^◌, ℤ, pos, negsuc, neg_ℤ, ◌+ℤ◌, ◌*ℤ◌, Bool, true, false, List, [], ◌∷◌}
use Rattle.emtp_fix.specs.Rounding.{near}

-- a sign, a whole number and a power of ten
pub record Decimal : Type 0 where
  pub negative : Bool
  pub digits : ℕ
  pub power : ℤ

abbrev pub signed : Bool → ℕ → ℤ
signed true n = neg_ℤ (pos n)
signed false n = pos n

-- a number with these digits written after it
abbrev pub with_digits : ℕ → List ℕ → ℕ
with_digits n [] = n
with_digits n (digit ∷ digits) = with_digits (10 * n + (digit - 48)) digits

-- the number that digits write; none write 0
abbrev pub number_of : List ℕ → ℕ
number_of digits = with_digits 0 digits

-- a whole number times a power of ten, rounded to a whole number
abbrev pub times_power : ℤ → ℤ → ℤ
times_power z (pos places) = z *ℤ pos (10 ^ places)
times_power z (negsuc places) = near z (pos (10 ^ suc places))

-- the value of a decimal in a unit of 10^-scale, rounded
unfoldable pub value_in : ℤ → Decimal → ℤ
value_in scale decimal = times_power (signed decimal.negative decimal.digits) (decimal.power +ℤ scale)
