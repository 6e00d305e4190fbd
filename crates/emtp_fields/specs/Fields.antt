-- The fields of a line: each run of one mark in the ruler of its card.
use Rattle.std.specs.Prelude.{[], ◌+◌, ◌-◌, ◌++◌, ◌==◌, List, None, Option, Some, codes, decimal, drop, if◌then◌else◌, length, map, take, zero, suc, ℕ}
use Rattle.emtp_card.specs.Field.{byte_in, trimmed}
use Rattle.emtp_card.specs.Lines.{is_blank}
use Rattle.emtp_causes.specs.Legend.{field_name}
use Rattle.emtp_causes.specs.Marked.{shown_byte}
use Rattle.emtp_fields.specs.Measure.{measured_text}
use Rattle.emtp_fields.specs.Measures.{measure_of}
use Rattle.emtp_fields.specs.declared.measure.Measure.{Measure}
use Rattle.emtp_fields.specs.declared.measure.TheConstants.{UNMEASURED}
use Rattle.emtp_walk.specs.declared.kind.Kind.{Kind}
use Rattle.emtp_warnings.specs.ColumnWarnings.{first_to}

-- what stands in columns, without the outer blanks
abbrev pub value_text : List ℕ → ℕ → ℕ → List ℕ
value_text line first last = map shown_byte (trimmed (take (last + 1 - first) (drop (first - 1) line)))

-- three columns, which are blank where a field holds no number
abbrev pub number_columns : List ℕ → Option Measure → List ℕ
number_columns line None = UNMEASURED.now
number_columns line (Some m) = measured_text line m

-- the columns of a field, its name, what stands there, and of a number its unit, its range and what it is read as
unfoldable pub field_text : List ℕ → Kind → ℕ → ℕ → List ℕ
field_text line kind first last =
    codes "\t" ++ decimal first ++ codes "-" ++ decimal last ++ codes "\t" ++ field_name line kind first last ++ codes "\t"
    ++ value_text line first last ++ codes "\t" ++ number_columns line (measure_of line kind first) ++ codes "\n"

-- columns that have a mark are a field; blanks mark none
abbrev pub marked_text : ℕ → List ℕ → Kind → ℕ → ℕ → List ℕ
marked_text mark line kind first last = if is_blank mark then [] else field_text line kind first last

-- of a column that is the last one of its mark, by where this mark begins
abbrev pub field_ending : List ℕ → List ℕ → Kind → ℕ → ℕ → List ℕ
field_ending ruler line kind first column =
    if byte_in ruler (column + 1) == byte_in ruler column then [] else marked_text (byte_in ruler column) line kind first column

-- of the first columns
abbrev pub fields_up_to : List ℕ → List ℕ → Kind → ℕ → List ℕ
fields_up_to ruler line kind zero = []
fields_up_to ruler line kind (suc before) =
    fields_up_to ruler line kind before ++ field_ending ruler line kind (first_to ruler before) (suc before)

-- a line a field, by the ruler
abbrev pub fields_text : List ℕ → List ℕ → Kind → List ℕ
fields_text ruler line kind = fields_up_to ruler line kind (length ruler)
