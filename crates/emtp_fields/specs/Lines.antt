-- The lines of a case, each with its fields.
use Rattle.std.specs.Prelude.{[], ◌+◌, ◌++◌, ◌∷◌, List, None, Option, Some, codes, decimal, false, slice_get, ℕ}
use Rattle.emtp_causes.specs.KindText.{kind_text}
use Rattle.emtp_causes.specs.Kinds.{kind_name}
use Rattle.emtp_causes.specs.Legend.{card_legend}
use Rattle.emtp_fields.specs.Fields.{fields_text}
use Rattle.emtp_walk.specs.declared.kind.Kind.{Kind}
use Rattle.emtp_walk.specs.declared.kind.Kind.TheVariants as read
use Rattle.emtp_walk.specs.declared.kind.LineReading.{LineReading}
use Rattle.emtp_warnings.specs.Marked.{field_ruler}

-- the number of a line, as what it is read, and the names of its fields over their columns
unfoldable pub kind_head : ℕ → List ℕ → Kind → List ℕ
kind_head number line kind =
    decimal number ++ codes "\t" ++ kind_name kind ++ codes "\t" ++ card_legend line kind ++ codes "\n"

abbrev pub card_fields : ℕ → List ℕ → Kind → List ℕ
card_fields number line kind = kind_head number line kind ++ fields_text (field_ruler number line kind) line kind

-- a comment is passed over
abbrev pub line_fields : ℕ → List ℕ → Kind → List ℕ
line_fields number line read.Comment = []
line_fields number line kind = card_fields number line kind

-- the line of a number, or what is due there
abbrev pub fields_at : ℕ → Option (List ℕ) → Kind → List ℕ
fields_at number (Some line) kind = line_fields number line kind
fields_at number None kind = kind_text number false kind

-- the lines from a place on, counted from 0, by as what each is read
abbrev pub all_fields : ℕ → List LineReading → List (List ℕ) → List ℕ
all_fields at [] lines = []
all_fields at (reading ∷ readings) lines =
    fields_at (at + 1) (slice_get lines at) reading.kind ++ all_fields (at + 1) readings lines
