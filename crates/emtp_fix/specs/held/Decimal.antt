-- Beside `Decimal`: what values hold for their proofs, and what premises say. No clause of the program reaches it.
use Rattle.std.specs.Prelude.{ℕ, zero, suc, ◌+◌, ◌-◌, ◌*◌, ◌^◌, List, [], ◌∷◌}

-- the number that digits behind the point write, in parts of 10^places
unfoldable pub written : ℕ → List ℕ → ℕ
written zero digits = 0
written (suc places) [] = 0
written (suc places) (digit ∷ digits) = (digit - 48) * 10 ^ places + written places digits

-- the last digit, or another where there is none
abbrev pub last_digit : ℕ → List ℕ → ℕ
last_digit other [] = other
last_digit other (digit ∷ digits) = last_digit digit digits
