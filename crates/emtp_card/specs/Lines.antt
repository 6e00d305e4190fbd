-- The lines of a case, and what one line is.
use Rattle.std.specs.Prelude.{ℕ, ◌+◌, ◌==◌, nat_lt, nat_eq, Bool, ◌&&◌, ◌||◌, not, List, [], ◌∷◌, Option, Some, None, codes, if◌then◌else◌}
use Rattle.std.specs.List.{list_all, starts_with}
use Rattle.std.specs.Str.{bytes_eq}
use Rattle.std.specs.Str.Lines.{lines}
use Rattle.emtp_card.specs.declared.reason.Why.{Why}
use Rattle.emtp_card.specs.declared.reason.Why.TheVariants.{ByteOutside, PastColumn80}

-- The lines of a case. A line ends with LF, and one CR just before it is dropped; a last piece without LF is a line as it stands, where it isn't empty.
unfoldable pub lines_of : List ℕ → List (List ℕ)
lines_of bytes = lines bytes

-- the byte LF ends a line
abbrev pub is_newline : ℕ → Bool
is_newline byte = byte == 10

-- the one blank is the byte 0x20
abbrev pub is_blank : ℕ → Bool
is_blank byte = byte == 32

-- `C` alone, or `C` and a blank in front
unfoldable pub is_comment : List ℕ → Bool
is_comment line = bytes_eq line (codes "C") || starts_with nat_eq line (codes "C ")

-- all blank, or `BLANK` in front
unfoldable pub is_section_end : List ℕ → Bool
is_section_end line = list_all is_blank line || starts_with nat_eq line (codes "BLANK")

-- why a byte may not stand in a column, if it may not: it isn't from 0x20 to 0x7E, or is no blank past column 80
abbrev pub fault_of_byte : ℕ → ℕ → Option Why
fault_of_byte column byte =
    if nat_lt byte 32 || nat_lt 126 byte then Some ByteOutside
    else if nat_lt 80 column && not (is_blank byte) then Some PastColumn80
    else None

-- a fault here, or else a later one
abbrev pub first_of : Option Why → ℕ → Option (ℕ × Why) → Option (ℕ × Why)
first_of (Some why) column later = Some (column, why)
first_of None column later = later

-- the first byte that may not stand where it does, and its column, of bytes that begin at a column
abbrev pub first_fault : ℕ → List ℕ → Option (ℕ × Why)
first_fault column [] = None
first_fault column (byte ∷ bytes) = first_of (fault_of_byte column byte) column (first_fault (column + 1) bytes)

unfoldable pub fault_of_line : List ℕ → Option (ℕ × Why)
fault_of_line line = first_fault 1 line
