-- All warnings of a case, line by line: first those of the line's columns, then those of its record; the channels come last.
use Rattle.std.specs.Prelude.{ℕ, ◌+◌, length, position, drop, take, not, List, [], ◌∷◌, ◌++◌, unwrap_or}
use Rattle.emtp_case.specs.declared.case.Parts.{Parts}
use Rattle.emtp_warnings.specs.ChannelWarnings.{channel_warnings}
use Rattle.emtp_warnings.specs.ColumnWarnings.{column_warnings}
use Rattle.emtp_warnings.specs.Finding.{points_to}
use Rattle.emtp_warnings.specs.Marked.{ruler_of}
use Rattle.emtp_warnings.specs.RecordWarnings.{record_warnings}
use Rattle.emtp_warnings.specs.declared.finding.Warning.{Warning}
use Rattle.emtp_walk.specs.declared.kind.Kind.{Kind}
use Rattle.emtp_walk.specs.declared.kind.Kind.TheVariants as read
use Rattle.emtp_walk.specs.declared.kind.LineReading.{LineReading}

-- what a line warns of by as what it is read; a comment, which may be longer than a ruler, of nothing
abbrev pub line_warnings : ℕ → Kind → List ℕ → List Warning
line_warnings number read.Comment line = []
line_warnings number kind line = column_warnings (ruler_of number line kind) number line

-- how many of the first warnings are on a line
abbrev pub count_on : ℕ → List Warning → ℕ
count_on number records = unwrap_or (position (λ (w : Warning). not (points_to number w)) records) (length records)

-- the lines from a number on, with the warnings of records that are left
abbrev pub warnings_from : ℕ → List LineReading → List (List ℕ) → List Warning → List Warning
warnings_from number (kind ∷ readings) (line ∷ lines) records =
    line_warnings number kind.kind line
    ++ (take (count_on number records) records
    ++ warnings_from (number + 1) readings lines (drop (count_on number records) records))
warnings_from number [] lines records = records
warnings_from number (kind ∷ readings) [] records = records

-- by as what each line is read
abbrev pub warnings : List LineReading → List (List ℕ) → Parts → List Warning
warnings readings lines p = warnings_from 1 readings lines (record_warnings p) ++ channel_warnings p.channels
