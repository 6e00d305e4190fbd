-- A line, and a mark below it.
use Rattle.std.specs.Prelude.{◌+◌, ◌++◌, ◌-◌, ◌||◌, List, codes, drop, if◌then◌else◌, map, nat_lt, replicate, take, ℕ}

-- a byte that a terminal may not show as one column is shown as ?
abbrev pub shown_byte : ℕ → ℕ
shown_byte byte = if nat_lt byte 32 || nat_lt 126 byte then 63 else byte

-- below a column
unfoldable pub mark : ℕ → List ℕ
mark column = replicate (column - 1) 32 ++ codes "^ "

-- up to 80 columns behind a mark
unfoldable pub shown_line : List ℕ → ℕ → List ℕ
shown_line line column = map shown_byte (take (column + 80 + 1 - 1) (drop (1 - 1) line)) ++ codes "\n"
