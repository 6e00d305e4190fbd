-- The samples of a record.
use Rattle.std.specs.Prelude.{ℕ, zero, suc, max, ℤ, pos, ◌+ℤ◌, unsigned_abs, List, [], slice_index_or}

-- the value of a channel in a sample
abbrev pub value_at : List (List ℤ) → ℕ → ℕ → ℤ
value_at rows sample channel = slice_index_or (slice_index_or rows sample []) channel (pos 0)

-- the greatest magnitude of a channel in the first samples
abbrev pub greatest : List (List ℤ) → ℕ → ℕ → ℕ
greatest rows channel zero = 0
greatest rows channel (suc n) = max (greatest rows channel n) (unsigned_abs (value_at rows n channel))

-- the sum of the values of a sample's first channels
abbrev pub sum_of : List (List ℤ) → ℕ → ℕ → ℤ
sum_of rows sample zero = pos 0
sum_of rows sample (suc n) = sum_of rows sample n +ℤ value_at rows sample n

-- the sum of all values of the first samples
abbrev pub total_of : List (List ℤ) → ℕ → ℕ → ℤ
total_of rows channels zero = pos 0
total_of rows channels (suc n) = total_of rows channels n +ℤ sum_of rows n channels
