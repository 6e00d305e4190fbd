-- The cause of a refusal, in words.
use Rattle.std.specs.Prelude.{[], ◌%◌, ◌&&◌, ◌+◌, ◌++◌, ◌-◌, ◌/◌, ◌==◌, ◌||◌, ◌∷◌, Bool, List, codes, count_by, drop, if◌then◌else◌, length, max, nat_lt, not, take, ℕ}
use Rattle.emtp_card.specs.Field.{byte_in, field_of}
use Rattle.emtp_card.specs.Lines.{is_section_end}
use Rattle.emtp_card.specs.declared.reason.Why.{Why}
use Rattle.emtp_card.specs.declared.reason.Why.TheVariants.{BadExpression, BadImpedance, BadName, BadOrder, BadPoints, BadType, ByteOutside, MissingSection, NotANumber, NotWhole, OutOfUnitRange, PastColumn80, ShortLine, TooMany, TooManyLines, TooManySamples, TwoSources, UnknownName}
use Rattle.emtp_causes.specs.Slip.{slip}
use Rattle.emtp_walk.specs.declared.kind.Kind.{Kind}
use Rattle.emtp_walk.specs.declared.kind.Kind.TheVariants as read
use Rattle.emtp_causes.specs.declared.texts.TheConstants.{ALLOWED_BYTES, A_COMMA, A_TAB, BAD_END_TIME, BAD_EXPRESSION, BAD_IMPEDANCE, BAD_NAME, BAD_ORDER, BAD_POINTS, BAD_STEP, BAD_TYPE, BRANCH_TYPES, BYTE_ORDER_MARK, BYTE_OUTSIDE, DEVICE_CODES, END_MARK_OF_DOS, FIRST_CARD, FORMULA_PLACE, MISSING_SECTION, NOT_A_NUMBER, NOT_WHOLE, NO_END_TIME, OTHER_UNITS, OUTPUT_MARKS, OUT_OF_RANGE, PAST_COLUMN_80, POINTS_WITHOUT_END, SHORT_LINE, SIGNS, SOURCE_TYPES, SUPPLEMENTAL_TYPES, SWITCH_TYPES, SWITCH_WORDS, TACS_OUTPUT_MARKS, TACS_SOURCE_TYPES, THE_BYTE, TOO_MANY, TOO_MANY_LINES, TOO_MANY_SAMPLES, TWO_SOURCES, UNKNOWN_NAME, VINTAGE_ENDS}

abbrev pub reason : Why → List ℕ
reason ByteOutside = BYTE_OUTSIDE.now
reason PastColumn80 = PAST_COLUMN_80.now
reason NotANumber = NOT_A_NUMBER.now
reason NotWhole = NOT_WHOLE.now
reason OutOfUnitRange = OUT_OF_RANGE.now
reason TooManyLines = TOO_MANY_LINES.now
reason BadType = BAD_TYPE.now
reason BadName = BAD_NAME.now
reason BadImpedance = BAD_IMPEDANCE.now
reason ShortLine = SHORT_LINE.now
reason BadPoints = BAD_POINTS.now
reason BadOrder = BAD_ORDER.now
reason UnknownName = UNKNOWN_NAME.now
reason TwoSources = TWO_SOURCES.now
reason TooMany = TOO_MANY.now
reason MissingSection = MISSING_SECTION.now
reason TooManySamples = TOO_MANY_SAMPLES.now
reason BadExpression = BAD_EXPRESSION.now

-- ---- bytes

abbrev pub hex_digit : ℕ → ℕ
hex_digit number = if nat_lt number 10 then 48 + number else 87 + number

unfoldable pub odd_byte : ℕ → List ℕ
odd_byte byte =
    THE_BYTE.now ++ (hex_digit (byte / 16) ∷ hex_digit (byte % 16) ∷ [])
    ++ ALLOWED_BYTES.now

-- in front of a file, that of UTF-8 or of UTF-16
abbrev pub is_mark : ℕ → ℕ → ℕ → Bool
is_mark number column byte = number == 1 && column == 1 && (byte == 239 || byte == 254 || byte == 255)

abbrev pub byte_text : ℕ → ℕ → ℕ → List ℕ
byte_text number column byte =
    if byte == 9 then A_TAB.now
    else if byte == 26 then END_MARK_OF_DOS.now
    else if is_mark number column byte then BYTE_ORDER_MARK.now
    else odd_byte byte

-- ---- numbers

-- how many columns the field of a number has at least on a card of a kind
abbrev pub number_width : Kind → ℕ
number_width (read.Point scale) = 16
number_width (read.Coefficients order) = 10
number_width read.TacsSource = 10
number_width read.Switch = 10
number_width read.Source = 10
number_width read.Tolerance = 8
number_width read.FirstRun = 8
number_width read.SecondRun = 8
number_width other = 6

abbrev pub has_byte : List ℕ → ℕ → Bool
has_byte text wanted = not (count_by (λ byte. byte == wanted) text == 0)

abbrev pub has_comma : List ℕ → ℕ → ℕ → Bool
has_comma line column width = has_byte (take (max column 1 + width - 1 + 1 - max column 1) (drop (max column 1 - 1) line)) 44

-- what ends a section ends no points
abbrev pub point_cause : List ℕ → Kind → ℕ → Why → List ℕ
point_cause line (read.Point scale) column why =
    if column == 1 && is_section_end line
    then POINTS_WITHOUT_END.now
    else reason why
point_cause line other column why = reason why

abbrev pub number_cause : List ℕ → Kind → ℕ → Why → List ℕ
number_cause line kind column why =
    if has_comma line column (number_width kind) then A_COMMA.now else point_cause line kind column why

abbrev pub first_cause : List ℕ → Kind → ℕ → List ℕ
first_cause line read.FirstRun column =
    if column == 1 then BAD_STEP.now
    else if column == 9 then
    if length (field_of line 9 16) == 0 then NO_END_TIME.now else BAD_END_TIME.now
    else OTHER_UNITS.now
first_cause line other column = reason OutOfUnitRange

-- ---- types, codes, marks, signs

abbrev pub has_equals : List ℕ → Bool
has_equals line = has_byte (take (80 + 1 - 9) (drop (9 - 1) line)) 61

abbrev pub extra_cause : List ℕ → ℕ → List ℕ
extra_cause line column =
    if has_equals line then FORMULA_PLACE.now
    else if column == 9 then DEVICE_CODES.now
    else SIGNS.now

abbrev pub sign_cause : List ℕ → Kind → ℕ → List ℕ
sign_cause line read.Vintage column = VINTAGE_ENDS.now
sign_cause line read.Block column = SIGNS.now
sign_cause line read.Extra column = extra_cause line column
sign_cause line other column = reason BadType

-- in the first columns
abbrev pub types_of : Kind → List ℕ
types_of (read.Branch wide) = BRANCH_TYPES.now
types_of read.Switch = SWITCH_TYPES.now
types_of read.Source = SOURCE_TYPES.now
types_of read.TacsSource = TACS_SOURCE_TYPES.now
types_of read.Extra = SUPPLEMENTAL_TYPES.now
types_of read.Output = OUTPUT_MARKS.now
types_of read.TacsOutput = TACS_OUTPUT_MARKS.now
types_of other = reason BadType

abbrev pub type_cause : List ℕ → Kind → ℕ → List ℕ
type_cause line kind column = if column == 1 then types_of kind else sign_cause line kind column

-- ---- places, words, names

abbrev pub place_cause : Kind → ℕ → Why → List ℕ
place_cause read.Begin column BadOrder = FIRST_CARD.now
place_cause read.Switch column BadName =
    if column == 55 then SWITCH_WORDS.now else reason BadName
place_cause read.Extra column BadExpression =
    if column == 11 then FORMULA_PLACE.now else reason BadExpression
place_cause other column why = reason why

-- ---- the cause

abbrev pub cause : List ℕ → Kind → ℕ → Why → List ℕ
cause line kind column NotANumber = number_cause line kind column NotANumber
cause line kind column NotWhole = number_cause line kind column NotWhole
cause line kind column BadPoints = point_cause line kind column BadPoints
cause line kind column OutOfUnitRange = first_cause line kind column
cause line kind column BadType = type_cause line kind column
cause line kind column why = place_cause kind column why

-- what the line was meant as, or why its card is refused
abbrev pub card_cause : List ℕ → List ℕ → Kind → ℕ → Why → List ℕ
card_cause meant line kind column why = if length meant == 0 then cause line kind column why else meant

-- why the line of a number is refused at a column
abbrev pub cause_text : ℕ → List ℕ → Kind → ℕ → Why → List ℕ
cause_text number line kind column ByteOutside = byte_text number column (byte_in line column)
cause_text number line kind column PastColumn80 = reason PastColumn80
cause_text number line kind column why = card_cause (slip line) line kind column why
