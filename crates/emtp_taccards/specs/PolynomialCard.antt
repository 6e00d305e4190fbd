-- Numerator and denominator cards of a block: the fields, each with its way through the bilinear rule, and the card.
use Rattle.std.specs.Prelude.{ℕ, zero, suc, ◌+◌, ◌*◌, ◌^◌, nat_le, ℤ, pos, neg_ℤ, unsigned_abs, Bool, true, ◌&&◌, List, [], ◌∷◌, Result, Ok, Err, if◌then◌else◌}
use Rattle.emtp_card.specs.NumberField.{number_or}
use Rattle.emtp_card.specs.declared.fault.Fault.{Fault}
use Rattle.emtp_card.specs.declared.number_field.NumberField.{NumberField}
use Rattle.emtp_card.specs.declared.reason.Bad.{Bad}
use Rattle.emtp_card.specs.declared.reason.Why.TheVariants.{OutOfUnitRange}
use Rattle.emtp_case.specs.Control.{bilinear}
use Rattle.emtp_fix.specs.declared.limit.TheConstants.{LARGEST_COEFFICIENT}
use Rattle.emtp_netcards.specs.Reading.{◌>>=◌, both, card_due}

-- the field of the coefficient of a power of s, which has ten columns
abbrev pub coefficient_at : ℕ → NumberField
coefficient_at power = record {
  first = 10 * power + 1;
  last = 10 * power + 10;
  scale = pos 12;
  low = neg_ℤ (pos LARGEST_COEFFICIENT);
  high = pos LARGEST_COEFFICIENT;
}

-- the coefficient of a power; those of powers above the order aren't read
abbrev pub coefficient_field : List ℕ → ℕ → ℕ → Result ℤ Fault
coefficient_field line order power = if nat_le power order then number_or (coefficient_at power) (pos 0) line else Ok (pos 0)

-- a coefficient stays in range while the bilinear rule takes it so many times
abbrev pub stays : ℤ → ℤ → ℕ → Bool
stays dt x zero = true
stays dt x (suc j) = stays dt x j && nat_le (unsigned_abs (bilinear dt x (suc j))) (8 * 10 ^ 25)

unfoldable pub taken_by : ℤ → ℕ → Result ℤ Fault → Result ℤ Fault
taken_by dt power (Ok x) = if stays dt x power then Ok x else Err (record { column = 10 * power + 1; why = OutOfUnitRange })
taken_by dt power (Err fault) = Err fault

-- the coefficient of a power, which is taken as often as the power says
abbrev pub taken_field : List ℕ → ℕ → ℤ → ℕ → Result ℤ Fault
taken_field line order dt power = taken_by dt power (coefficient_field line order power)

-- those of a power and the next one
unfoldable pub pair_of : List ℕ → ℕ → ℤ → ℕ → Result (ℤ × ℤ) Fault
pair_of line order dt power = both (taken_field line order dt power) (taken_field line order dt (power + 1))

-- those of four powers, from this one
unfoldable pub four_of : List ℕ → ℕ → ℤ → ℕ → Result ((ℤ × ℤ) × (ℤ × ℤ)) Fault
four_of line order dt power = both (pair_of line order dt power) (pair_of line order dt (power + 2))

-- the coefficients of the powers from 0 to 7
unfoldable pub coefficients : List ℕ → ℕ → ℤ → Result (List ℤ) Fault
coefficients line order dt = do
  ((a, b), (c, d)) ← both (four_of line order dt 0) (four_of line order dt 4)
  Ok (a.0 ∷ a.1 ∷ b.0 ∷ b.1 ∷ c.0 ∷ c.1 ∷ d.0 ∷ d.1 ∷ [])

-- the card is due: also a line that would end a section is read
unfoldable pub polynomial_card : ℕ → List ℕ → ℕ → ℤ → Result (List ℤ) Bad
polynomial_card number line order dt = card_due number line (coefficients line order dt)
