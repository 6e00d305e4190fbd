-- Decimals of whole numbers that count parts of ten.
use Rattle.std.specs.Prelude.{ℕ, zero, suc, ◌+◌, ◌/◌, ◌%◌, ◌^◌, ◌==◌, ℤ, pos, int_lt, unsigned_abs, List, [], ◌∷◌, ◌++◌, decimal, if◌then◌else◌}

-- the digits of r / 10^places behind the point, without trailing zeros
unfoldable pub fraction : ℕ → ℕ → List ℕ
fraction zero r = []
fraction (suc places) r = if r == 0 then [] else (48 + r / 10 ^ places) ∷ fraction places (r % 10 ^ places)

-- the point and the digits behind it; nothing where r is 0
abbrev pub point_fraction : ℕ → ℕ → List ℕ
point_fraction places r = if r == 0 then [] else 46 ∷ fraction places r

abbrev pub sign : ℤ → List ℕ
sign x = if int_lt x (pos 0) then 45 ∷ [] else []

-- x / 10^places as a decimal
unfoldable pub fixed_text : ℤ → ℕ → List ℕ
fixed_text x places = sign x ++ decimal (unsigned_abs x / 10 ^ places) ++ point_fraction places (unsigned_abs x % 10 ^ places)
