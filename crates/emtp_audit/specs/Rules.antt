-- The fields of a line, what each of them has to be, and the first that differs.
use Rattle.std.specs.Prelude.{ℕ, ◌+◌, ◌==◌, nat_lt, ℤ, Bool, ◌||◌, List, [], ◌∷◌, length, map, Option, Some, None, if◌then◌else◌}
use Rattle.std.specs.List.{list_all, slice_split}
use Rattle.std.specs.Str.{bytes_eq}
use Rattle.std.specs.Ordering.{int_eq}
use Rattle.emtp_audit.specs.Numbers.{whole_of}
use Rattle.emtp_card.specs.Lines.{lines_of}
use Rattle.emtp_card.specs.Field.{trimmed}
use Rattle.emtp_card.specs.Name.{is_comma}
use Rattle.emtp_audit.specs.declared.differs.DifferCause.{DifferCause}
use Rattle.emtp_audit.specs.declared.differs.DifferCause.TheVariants.{Missing, Extra, NotNumber, Wrong, Long}
use Rattle.emtp_audit.specs.declared.differs.Differs.{Differs}
use Rattle.emtp_audit.specs.declared.limit.TheConstants.{MOST_BYTES}

-- ---- lines and fields

-- a line that says nothing: blanks, and the mark of a file's end
abbrev pub is_padding : List ℕ → Bool
is_padding line = list_all (λ b. (b == 32) || (b == 26)) line

-- without the last lines that say nothing
abbrev pub without_padding : List (List ℕ) → List (List ℕ)
without_padding [] = []
without_padding (line ∷ lines) = if list_all is_padding (line ∷ lines) then [] else line ∷ without_padding lines

-- the lines of a file that are compared
unfoldable pub audited_lines : List ℕ → List (List ℕ)
audited_lines bytes = without_padding (lines_of bytes)

-- the fields of a line, without the blanks around them
unfoldable pub comma_fields : List ℕ → List (List ℕ)
comma_fields line = map trimmed (slice_split is_comma line)

-- ---- fields

-- what is wrong with a field, if anything
abbrev pub Rule : Type 0
Rule = List ℕ → Option DifferCause

-- a field that isn't compared
abbrev pub any_field : Rule
any_field field = None

abbrev pub unless_wrong : Bool → Option DifferCause
unless_wrong right = if right then None else Some Wrong

-- a field with this text
abbrev pub text_is : List ℕ → Rule
text_is text field = unless_wrong (bytes_eq field text)

-- a number that was read, and has to be right
abbrev pub judged_number : Option ℤ → (ℤ → Bool) → Option DifferCause
judged_number None right = Some NotNumber
judged_number (Some number) right = unless_wrong (right number)

-- a number with this value, however it is spelled
abbrev pub number_is : ℤ → Rule
number_is number field = judged_number (whole_of field) (λ x. int_eq x number)

-- ---- the first difference

-- of a file: its number of the line, and of the field in it
abbrev pub differs_at : Bool → ℕ → ℕ → DifferCause → Option Differs
differs_at dat line field cause = Some (record { dat = dat; line = line; field = field; cause = cause })

-- a cause in a field, or else what comes later
abbrev pub cause_or_later : Bool → ℕ → ℕ → Option DifferCause → Option Differs → Option Differs
cause_or_later dat line field (Some cause) later = differs_at dat line field cause
cause_or_later dat line field None later = later

-- fields against their rules, from one on
abbrev pub fields_differ : Bool → ℕ → ℕ → List Rule → List (List ℕ) → Option Differs
fields_differ dat line number [] [] = None
fields_differ dat line number [] (field ∷ fields) = differs_at dat line number Extra
fields_differ dat line number (rule ∷ rules) [] = differs_at dat line number Missing
fields_differ dat line number (rule ∷ rules) (field ∷ fields) =
    cause_or_later dat line number (rule field) (fields_differ dat line (number + 1) rules fields)

-- what a line has to be: anything, or fields by rules
pub data LineRule : Type 0 where
  Anything : LineRule
  Fields : List Rule → LineRule

abbrev pub line_differs : Bool → ℕ → LineRule → List ℕ → Option Differs
line_differs dat number Anything line = None
line_differs dat number (Fields rules) line = fields_differ dat number 1 rules (comma_fields line)

-- a difference, or else a later one
abbrev pub differs_or_later : Option Differs → Option Differs → Option Differs
differs_or_later (Some differs) later = Some differs
differs_or_later None later = later

-- lines against their rules, from one on
abbrev pub lines_differ : Bool → ℕ → List LineRule → List (List ℕ) → Option Differs
lines_differ dat number [] [] = None
lines_differ dat number [] (line ∷ lines) = differs_at dat number 1 Extra
lines_differ dat number (rule ∷ rules) [] = differs_at dat number 1 Missing
lines_differ dat number (rule ∷ rules) (line ∷ lines) =
    differs_or_later (line_differs dat number rule line) (lines_differ dat (number + 1) rules lines)

-- a file against its rules
abbrev pub file_differs : Bool → List LineRule → List ℕ → Option Differs
file_differs dat rules bytes =
    if nat_lt MOST_BYTES (length bytes) then differs_at dat 0 0 Long else lines_differ dat 1 rules (audited_lines bytes)
