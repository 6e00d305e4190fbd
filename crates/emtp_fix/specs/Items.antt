-- Lists of whole numbers, read by place.
use Rattle.std.specs.Prelude.{ℕ, ℤ, pos, List, slice_index_or}

-- the number at a place of a list, or 0 past its end
abbrev pub item : List ℤ → ℕ → ℤ
item xs i = slice_index_or xs i (pos 0)
