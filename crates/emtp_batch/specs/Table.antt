-- The table of switch times: a row a line.
use Rattle.std.specs.Prelude.{ℕ, ◌+◌, ◌==◌, nat_eq, nat_lt, Bool, ◌||◌, List, [], ◌∷◌, length, Result, Ok, Err, codes, if◌then◌else◌}
use Rattle.std.specs.List.{list_all, starts_with}
use Rattle.emtp_card.specs.Lines.{is_blank, lines_of}
use Rattle.emtp_card.specs.declared.cards.TheConstants.{MAX_BYTES}
use Rattle.emtp_case.specs.declared.case.Parts.{Parts}
use Rattle.emtp_case.specs.declared.switch.Times.{Times}
use Rattle.emtp_case.specs.Switch.{card_times}
use Rattle.emtp_batch.specs.Row.{cons_result, row_times}
use Rattle.emtp_batch.specs.declared.table.Row.{Row}
use Rattle.emtp_batch.specs.declared.table.TheConstants.{MAX_ROWS}

-- a line and an item of it, both counted from 1
pub record FaultyItem : Type 0 where
  pub line : ℕ
  pub item : ℕ

-- a line of blanks, or one that begins with `#`, is no row
abbrev pub is_skipped : List ℕ → Bool
is_skipped line = list_all is_blank line || starts_with nat_eq line (codes "#")

abbrev pub on_line : ℕ → Result (List Times) ℕ → Result Row FaultyItem
on_line line (Ok times) = Ok (record { times = times })
on_line line (Err item) = Err (record { line = line; item = item })

-- the row of a line after so many rows; one row too many is refused at its first item
abbrev pub row_on_line : List Times → ℕ → ℕ → List ℕ → Result Row FaultyItem
row_on_line cards line count text = on_line line (if count == MAX_ROWS then Err 1 else row_times cards text)

-- the rows of the lines, from a line on and after so many rows, or the first faulty place
abbrev pub rows_from : List Times → ℕ → ℕ → List (List ℕ) → Result (List Row) FaultyItem
rows_from cards line count [] = Ok []
rows_from cards line count (text ∷ more) =
    if is_skipped text then rows_from cards (line + 1) count more
    else cons_result (row_on_line cards line count text) (rows_from cards (line + 1) (count + 1) more)

-- a table has a row; one without is refused at the line after its last
abbrev pub some_rows : ℕ → Result (List Row) FaultyItem → Result (List Row) FaultyItem
some_rows line (Err place) = Err place
some_rows line (Ok []) = Err (record { line = line; item = 1 })
some_rows line (Ok (row ∷ more)) = Ok (row ∷ more)

unfoldable pub rows_in : List Times → List ℕ → Result (List Row) FaultyItem
rows_in cards bytes = some_rows (length (lines_of bytes) + 1) (rows_from cards 1 0 (lines_of bytes))

-- the rows of a table for a case, or the place for which it is refused; one byte too many is refused first
unfoldable pub times_table : List ℕ → Parts → Result (List Row) FaultyItem
times_table bytes case =
    if nat_lt MAX_BYTES (length bytes) then Err (record { line = 0; item = 0 })
    else rows_in (card_times case.switches) bytes
