-- The coefficients of a block: what the sum of its denominator's coefficients divides.
use Rattle.emtp_fix.specs.declared.limit.TheConstants.{LARGEST_COEFFICIENT}
use Rattle.std.specs.Ordering.{int_eq}
use Rattle.std.specs.Prelude.{Bool, None, Option, Some, if◌then◌else◌, nat_lt, pos, suc, true, unsigned_abs, zero, ℕ, ℤ, ◌*ℤ◌, ◌*◌, ◌+◌, ◌^◌}
use Rattle.emtp_card.specs.declared.reason.Bad.{Bad}
use Rattle.emtp_card.specs.declared.reason.Why.TheVariants.{OutOfUnitRange}
use Rattle.emtp_case.specs.Control.{power_of, quotient_of}
use Rattle.emtp_case.specs.Sums.{sum_upto}
use Rattle.emtp_walk.specs.Answer.{first_bad}
use Rattle.emtp_walk.specs.declared.control_cards.BlockEntry.{BlockEntry}
use Rattle.emtp_fix.specs.Rounding.{near}

abbrev pub range_bad : ℕ → ℕ → Bool → Option Bad
range_bad line column is = if is then Some (record { line = line; column = column; why = OutOfUnitRange }) else None

abbrev pub is_large : ℤ → Bool
is_large x = nat_lt LARGEST_COEFFICIENT (unsigned_abs x)

-- the first quotient up to a power that is too large, in the column of its field
abbrev pub quotients_bad : ℕ → (ℕ → ℤ) → ℕ → Option Bad
quotients_bad line f zero = range_bad line 1 (is_large (f 0))
quotients_bad line f (suc n) = first_bad (quotients_bad line f n) (range_bad line (10 * (n + 1) + 1) (is_large (f (suc n))))

abbrev pub gain_bad : ℕ → ℤ → ℤ → Option Bad
gain_bad line gain sum = range_bad line 51 (is_large (near (gain *ℤ sum) (pos (10 ^ 12))))

-- the denominators, the numerators and the gain within a step
abbrev pub divided_by : ℤ → BlockEntry → ℕ → ℕ → ℤ → Option Bad
divided_by dt e top bottom divisor =
    let order = e.card.order in
    first_bad (quotients_bad bottom (quotient_of dt e.bottom divisor) order)
    (first_bad (quotients_bad top (quotient_of dt e.top divisor) order)
    (gain_bad e.card.line e.card.gain (sum_upto order (quotient_of dt e.top divisor))))

-- What refuses the coefficients once both cards were read, whose lines are these: first their sum, which is at the first
-- column of the denominator. Each fault has the line of its own field.
unfoldable pub divided_bad : ℤ → BlockEntry → ℕ → ℕ → Option Bad
divided_bad dt e top bottom =
    let divisor = sum_upto e.card.order (power_of dt e.bottom) in
    if int_eq divisor (pos 0) then range_bad bottom 1 true else divided_by dt e top bottom divisor
