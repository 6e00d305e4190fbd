-- What the word of a ratio says for the proofs. No clause of the program reaches it.
use Rattle.std.specs.Prelude.{◌*◌, ◌^◌, ◌<◌, ℤ, pos, ◌+ℤ◌, ◌*ℤ◌, ◌≤ℤ◌, unsigned_abs}

-- where a ratio, in units of 10^-12, is below 2 in magnitude, its word is 2^62 of it rounded down, or one less
pub record IsRatioWord (ratio word : ℤ) : Type 0 where
  pub low : unsigned_abs ratio < 2 * 10 ^ 12 → (word *ℤ pos (10 ^ 12)) ≤ℤ (ratio *ℤ pos (2 ^ 62))
  pub high : unsigned_abs ratio < 2 * 10 ^ 12 → (ratio *ℤ pos (2 ^ 62)) ≤ℤ (word *ℤ pos (10 ^ 12) +ℤ pos (10 ^ 12))
