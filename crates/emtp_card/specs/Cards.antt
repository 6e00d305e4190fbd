-- How long a case may be, and the line where it is too long.
use Rattle.std.specs.Prelude.{ℕ, ◌+◌, nat_lt, min, List, length, take, count_by, Option, Some, None, option_map, if◌then◌else◌}
use Rattle.emtp_card.specs.Lines.{lines_of, is_newline}
use Rattle.emtp_card.specs.declared.reason.Bad.{Bad}
use Rattle.emtp_card.specs.declared.reason.Why.TheVariants.{TooManyLines}
use Rattle.emtp_card.specs.declared.cards.TheConstants.{MAX_LINES, MAX_BYTES}

-- line 100,001, where there are so many lines
unfoldable pub line_past_count : List ℕ → Option ℕ
line_past_count bytes = if nat_lt MAX_LINES (length (lines_of bytes)) then Some (MAX_LINES + 1) else None

-- the line that holds byte 9,000,001, where there are so many bytes; an LF belongs to the line that it ends
unfoldable pub line_past_bytes : List ℕ → Option ℕ
line_past_bytes bytes = if nat_lt MAX_BYTES (length bytes) then Some (count_by is_newline (take MAX_BYTES bytes) + 1) else None

-- the lesser of two lines, where they are
abbrev pub lesser_line : Option ℕ → Option ℕ → Option ℕ
lesser_line None other = other
lesser_line (Some line) None = Some line
lesser_line (Some line) (Some other) = Some (min line other)

-- the refusal of a line that is too far
abbrev pub too_many_at : ℕ → Bad
too_many_at line = record { line = line; column = 1; why = TooManyLines }

-- the refusal of a case of too many lines or bytes, at the first line that is too far
unfoldable pub size_fault : List ℕ → Option Bad
size_fault bytes = option_map too_many_at (lesser_line (line_past_count bytes) (line_past_bytes bytes))
