-- Ranges of the numbers in a record.
use Rattle.std.specs.Prelude.{◌≢◌, ◌≤◌, ◌≤ℤ◌, pos, ℕ, ℤ}

-- z is from low to high
pub record IsBetween (low high : ℕ) (z : ℤ) : Type 0 where
  pub least : pos low ≤ℤ z
  pub most : z ≤ℤ pos high

-- two ends that exist and differ; 0 is ground
pub record AreEnds (nodes «from» to : ℕ) : Type 0 where
  pub from_there : «from» ≤ nodes
  pub to_there : to ≤ nodes
  pub apart : «from» ≢ to
