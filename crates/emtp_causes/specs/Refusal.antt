-- The whole text of a refusal.
use Rattle.std.specs.Prelude.{[], ◌++◌, ◌-◌, ◌==◌, List, None, Option, Some, codes, decimal, if◌then◌else◌, length, slice_get, take, ℕ}
use Rattle.emtp_card.specs.declared.reason.Bad.{Bad}
use Rattle.emtp_causes.specs.Cause.{cause_text}
use Rattle.emtp_causes.specs.Kinds.{kind_name}
use Rattle.emtp_causes.specs.Legend.{card_legend}
use Rattle.emtp_causes.specs.Marked.{mark, shown_line}
use Rattle.emtp_causes.specs.Sections.{sections_text}
use Rattle.emtp_walk.specs.declared.kind.Kind.{Kind}
use Rattle.emtp_walk.specs.declared.kind.LineReading.{LineReading}
use Rattle.emtp_causes.specs.declared.texts.TheConstants.{CARD_IS_DUE, CASE_ENDS, IS_READ_AS, LONG_CASE, THIS_CARD, WHERE}

abbrev pub legend_line : List ℕ → List ℕ
legend_line legend = if length legend == 0 then [] else legend ++ codes "\n"

-- the card below the names of its fields, a mark under its column with the cause, and as what it was read
unfoldable pub refused_card : List ℕ → Kind → Bad → List ℕ
refused_card line kind bad =
    legend_line (card_legend line kind) ++ shown_line line bad.column ++ mark bad.column
    ++ cause_text bad.line line kind bad.column bad.why
    ++ THIS_CARD.now ++ decimal bad.line ++ IS_READ_AS.now ++ kind_name kind ++ codes ".\n"

-- behind so many lines another one is due
unfoldable pub missing_line : ℕ → Kind → List ℕ
missing_line before kind =
    CASE_ENDS.now ++ decimal before ++ WHERE.now ++ kind_name kind
    ++ CARD_IS_DUE.now

abbrev pub line_text : Option (List ℕ) → Bad → Kind → List ℕ
line_text (Some line) bad kind = refused_card line kind bad
line_text None bad kind = missing_line (bad.line - 1) kind

abbrev pub read_text : List (List ℕ) → Bad → Kind → List ℕ
read_text lines bad kind = line_text (slice_get lines (bad.line - 1)) bad kind

abbrev pub reading_text : List (List ℕ) → Bad → Option LineReading → List ℕ
reading_text lines bad (Some reading) = read_text lines bad reading.kind
reading_text lines bad None = []

-- the card and where the sections before it ended
abbrev pub refusal_text : List LineReading → List (List ℕ) → Bad → List ℕ
refusal_text readings lines bad =
    reading_text lines bad (slice_get readings (bad.line - 1)) ++ sections_text (take (bad.line - 1) readings) lines

-- of a file that is too long no line is read
abbrev pub size_text : List ℕ
size_text = LONG_CASE.now
