-- The field that a refusal means.
use Rattle.std.specs.Prelude.{[], ◌&&◌, ◌++◌, ◌-◌, ◌==◌, ◌||◌, Bool, List, None, Option, Some, codes, decimal, false, if◌then◌else◌, nat_le, not, slice_get, true, ℕ}
use Rattle.emtp_card.specs.Field.{byte_in}
use Rattle.emtp_card.specs.Lines.{is_blank}
use Rattle.emtp_card.specs.declared.reason.Bad.{Bad}
use Rattle.emtp_card.specs.declared.reason.Why.{Why}
use Rattle.emtp_card.specs.declared.reason.Why.TheVariants.{ByteOutside, MissingSection, PastColumn80, TooManyLines}
use Rattle.emtp_causes.specs.Legend.{field_name}
use Rattle.emtp_fields.specs.declared.refused.TheConstants.{LAST_COLUMN, REFUSED}
use Rattle.emtp_walk.specs.declared.kind.Kind.{Kind}
use Rattle.emtp_walk.specs.declared.kind.LineReading.{LineReading}
use Rattle.emtp_warnings.specs.ColumnWarnings.{last_of}
use Rattle.emtp_warnings.specs.Marked.{field_ruler}

-- the line, the columns up to a last one, and a name
unfoldable pub place_line : Bad → ℕ → List ℕ → List ℕ
place_line bad last name =
    REFUSED.now ++ decimal bad.line ++ codes "\t" ++ decimal bad.column ++ codes "-" ++ decimal last ++ codes "\t" ++ name
    ++ codes "\n"

-- and not one of a byte, or of what isn't there
abbrev pub is_of_field : Why → Bool
is_of_field ByteOutside = false
is_of_field PastColumn80 = false
is_of_field MissingSection = false
is_of_field TooManyLines = false
is_of_field why = true

abbrev pub begins_field : List ℕ → ℕ → Bool
begins_field ruler column =
    nat_le 1 column && nat_le column LAST_COLUMN && not (is_blank (byte_in ruler column))
    && (column == 1 || not (byte_in ruler (column - 1) == byte_in ruler column))

-- the field that begins in its column, or this column alone
abbrev pub by_ruler : List ℕ → List ℕ → Kind → Bad → List ℕ
by_ruler ruler line kind bad =
    if is_of_field bad.why && begins_field ruler bad.column
    then place_line bad (last_of ruler bad.column) (field_name line kind bad.column (last_of ruler bad.column))
    else place_line bad bad.column []

abbrev pub in_line : ℕ → List ℕ → Kind → Bad → List ℕ
in_line number line kind bad = by_ruler (field_ruler number line kind) line kind bad

abbrev pub field_refused : Option (List ℕ) → Option LineReading → Bad → List ℕ
field_refused (Some line) (Some read) bad = in_line bad.line line read.kind bad
field_refused (Some line) None bad = place_line bad bad.column []
field_refused None read bad = place_line bad bad.column []

-- where a refusal points: the line, the columns of its field, and the name of this
abbrev pub refused_field : List LineReading → List (List ℕ) → Bad → List ℕ
refused_field readings lines bad = field_refused (slice_get lines (bad.line - 1)) (slice_get readings (bad.line - 1)) bad
