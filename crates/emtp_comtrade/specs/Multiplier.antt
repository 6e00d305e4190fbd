-- The multiplier of an analog channel.
use Rattle.std.specs.Prelude.{ℕ, zero, suc, ◌+◌, ◌*◌, ◌^◌, nat_le, Option, Some, None, unwrap_or, if◌then◌else◌}

-- the first of 1, 2 and 5 units that holds the magnitude
abbrev pub multiplier_in : ℕ → ℕ → Option ℕ
multiplier_in unit greatest =
    if nat_le greatest (32767 * unit) then Some unit
    else if nat_le greatest (32767 * (2 * unit)) then Some (2 * unit)
    else if nat_le greatest (32767 * (5 * unit)) then Some (5 * unit)
    else None

-- the first in this power of ten or the next ones, of so many
unfoldable pub multiplier_from : ℕ → ℕ → ℕ → ℕ
multiplier_from zero power greatest = 10 ^ power
multiplier_from (suc powers) power greatest =
    unwrap_or (multiplier_in (10 ^ power) greatest) (multiplier_from powers (power + 1) greatest)

-- the multiplier of a channel with this greatest magnitude
unfoldable pub multiplier_of : ℕ → ℕ
multiplier_of greatest = multiplier_from 15 0 greatest
