-- The magnitude of a number in a unit, and the digits that make it.
use Rattle.std.specs.Prelude.{ℕ, suc, ◌*◌, ◌^◌, ℤ, pos, negsuc, ◌+ℤ◌, List, ◌++◌}
use Rattle.emtp_fix.specs.Rounding.{near_abs}
use Rattle.emtp_card.specs.Decimal.{Decimal}
use Rattle.emtp_card.specs.declared.numeral.Numeral.{Numeral}

-- all digits of a spelled number
abbrev pub digits_in : Numeral → List ℕ
digits_in n = n.whole.now ++ n.fraction.now

-- a number times a power of ten, rounded
abbrev pub scaled : ℕ → ℤ → ℕ
scaled n (pos places) = n * 10 ^ places
scaled n (negsuc places) = near_abs n (10 ^ suc places)

-- the magnitude of a decimal in a unit of 10^-scale, rounded
abbrev pub magnitude_in : ℤ → Decimal → ℕ
magnitude_in scale decimal = scaled decimal.digits (decimal.power +ℤ scale)
