-- Numbers that are kept within a limit.
use Rattle.std.specs.Prelude.{ℕ, ℤ, unsigned_abs, nat_le, Bool, Option, Some, None, if◌then◌else◌}
use Rattle.emtp_fix.specs.declared.limit.TheConstants.{LARGEST_VALUE}

-- a number that doesn't exceed a limit in magnitude
abbrev pub is_within : ℕ → ℤ → Bool
is_within limit x = nat_le (unsigned_abs x) limit

-- a voltage, a current or a value of the control, where it is in range
abbrev pub in_range : ℤ → Option ℤ
in_range x = if is_within LARGEST_VALUE x then Some x else None

-- where there is a value, what is made of it: 'do' chains numbers that are kept by it
infixl 10 ◌>>=◌
abbrev pub ◌>>=◌ : {A B : Type 0} → Option A → (A → Option B) → Option B
None >>= f = None
(Some x) >>= f = f x
