-- The value that was pushed so long ago.
use Rattle.std.specs.Prelude.{ℕ, ℤ, pos, List, slice_index_or}

-- the value pushed k pushes before the last one, and 0 where there is none
abbrev pub value_before : List ℤ → ℕ → ℤ
value_before pushes k = slice_index_or pushes k (pos 0)
