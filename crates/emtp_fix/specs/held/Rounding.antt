-- Beside `Rounding`: what values hold for their proofs, and what premises say. No clause of the program reaches it.
use Rattle.std.specs.Prelude.{◌≡◌, ℕ, ◌≤◌, ℤ, ◌-ℤ◌, ◌*ℤ◌, unsigned_abs}

-- the magnitude of what is left of a once z times b is taken away
abbrev pub rest : ℤ → ℤ → ℤ → ℕ
rest a b z = unsigned_abs (a -ℤ z *ℤ b)

-- z leaves the least rest of all whole numbers, and of two that do it is the one farther from zero
pub record IsNearest (a b z : ℤ) : Type 0 where
  pub least : (y : ℤ) → rest a b z ≤ rest a b y
  pub farther : (y : ℤ) → rest a b y ≡ rest a b z → unsigned_abs y ≤ unsigned_abs z
