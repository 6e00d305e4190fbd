-- Beside `Samples`: what values hold for their proofs, and what premises say. No clause of the program reaches it.
use Rattle.std.specs.Prelude.{◌≡◌, ℕ, zero, suc, ◌*◌, ◌^◌, ◌<◌, ◌≤◌, ℤ, List, [], ◌∷◌, take, drop}

-- one list a sample, with one value a channel
pub record Sampled : Type 0 where
  pub rows : List (List ℤ)
  pub channels : ℕ
  -- how many samples have room
  pub room : ℕ
  -- how many values have room in the block of memory that is held
  pub capacity : ℕ

-- each sample that was taken has a value a channel, and all that have room find it
pub record IsReserved (channels room count len capacity : ℕ) : Type 0 where
  pub taken : len ≡ count * channels
  pub within : count ≤ room
  pub reserved : room * channels ≡ capacity
  pub few : room < 2 ^ 32
  pub small : room * channels < 2 ^ 64

-- so many rows of so many values
abbrev pub rows_of : ℕ → ℕ → List ℤ → List (List ℤ)
rows_of channels zero values = []
rows_of channels (suc count) values = take channels values ∷ rows_of channels count (drop channels values)
