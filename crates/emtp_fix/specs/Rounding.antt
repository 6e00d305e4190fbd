-- Rounding to the nearest whole number, a half away from zero.
use Rattle.std.specs.Prelude.{ℕ, suc, ◌+◌, ◌*◌, ◌/◌, ℤ, pos, negsuc, neg_ℤ}

-- n / d, rounded to the nearest whole number, a half upwards; 0 where d is 0
unfoldable pub near_abs : ℕ → ℕ → ℕ
near_abs n d = (2 * n + d) / (2 * d)

-- a / b, rounded to the nearest whole number, a half away from zero; 0 where b is 0
unfoldable pub near : ℤ → ℤ → ℤ
near (pos a) (pos b) = pos (near_abs a b)
near (pos a) (negsuc b) = neg_ℤ (pos (near_abs a (suc b)))
near (negsuc a) (pos b) = neg_ℤ (pos (near_abs (suc a) b))
near (negsuc a) (negsuc b) = pos (near_abs (suc a) (suc b))
