-- As what a line is read, in words.
use Rattle.std.specs.Prelude.{[], ◌+◌, ◌++◌, ◌∷◌, Bool, true, false, nat_le, List, codes, decimal, ℕ}
use Rattle.emtp_causes.specs.Kinds.{kind_name}
use Rattle.emtp_walk.specs.declared.kind.Kind.{Kind}
use Rattle.emtp_walk.specs.declared.kind.Kind.TheVariants as read
use Rattle.emtp_walk.specs.declared.kind.LineReading.{LineReading}
use Rattle.emtp_causes.specs.declared.texts.TheConstants.{DUE, ENDS_WHERE, IS_DUE, LINE_NUMBER, READ_AS}

-- ---- of one card

unfoldable pub read_line : ℕ → List ℕ → List ℕ
read_line number kind = LINE_NUMBER.now ++ decimal number ++ READ_AS.now ++ kind ++ codes "\n"

unfoldable pub due_line : ℕ → List ℕ → List ℕ
due_line number kind = LINE_NUMBER.now ++ decimal number ++ ENDS_WHERE.now ++ kind ++ IS_DUE.now

-- of the line of a number, which is there or not
abbrev pub section_text : ℕ → Bool → List ℕ → List ℕ
section_text number true kind = read_line number kind
section_text number false kind = due_line number kind

-- ---- of all lines

-- between a number and a kind, of a line that is there or not
abbrev pub mark_of : Bool → List ℕ
mark_of true = codes "\t"
mark_of false = DUE.now

unfoldable pub kind_line : ℕ → List ℕ → List ℕ → List ℕ
kind_line number mark kind = decimal number ++ mark ++ kind ++ codes "\n"

-- a comment is passed over
abbrev pub kind_text : ℕ → Bool → Kind → List ℕ
kind_text number there read.Comment = []
kind_text number there kind = kind_line number (mark_of there) (kind_name kind)

-- from the line of a number on, of so many
abbrev pub kinds_text : ℕ → ℕ → List LineReading → List ℕ
kinds_text count number [] = []
kinds_text count number (kind ∷ readings) =
    kind_text number (nat_le number count) kind.kind ++ kinds_text count (number + 1) readings
