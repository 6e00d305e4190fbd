-- The square root of a whole number.
use Rattle.std.specs.Prelude.{ℕ, zero, suc, ◌*◌, ℤ, pos, negsuc, nat_le, if◌then◌else◌}

-- the greatest of the numbers up to k whose square is at most n
unfoldable pub root_upto : ℕ → ℕ → ℕ
root_upto n zero = 0
root_upto n (suc k) = if nat_le (suc k * suc k) n then suc k else root_upto n k

-- the greatest whole number whose square is at most x; 0 where x is below 0
unfoldable pub isqrt : ℤ → ℤ
isqrt (pos n) = pos (root_upto n n)
isqrt (negsuc n) = pos 0
