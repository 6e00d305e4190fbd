-- The words of an expression. Each is as long as its rule allows.
use Rattle.std.specs.Prelude.{ℕ, zero, suc, ◌+◌, ◌-◌, ◌==◌, nat_eq, nat_lt, ◌&&◌, ◌||◌, List, [], ◌∷◌, length, take, drop, take_while, codes, Option, Some, None, is_none, if◌then◌else◌}
use Rattle.std.specs.Char.{is_ascii_digit, is_ascii_alphabetic, is_ascii_alphanumeric}
use Rattle.std.specs.List.{starts_with}
use Rattle.std.specs.Str.{bytes_eq}
use Rattle.emtp_case.specs.declared.expr.BinaryOp.TheVariants.{Add, Sub, Mul, Div, Gt, Ge, Lt, Le, Eq, Ne, And, Or}
use Rattle.emtp_case.specs.declared.expr.UnaryOp.{UnaryOp}
use Rattle.emtp_case.specs.declared.expr.UnaryOp.TheVariants.{Abs, Sqrt, Trunc, Sign}
use Rattle.emtp_expr.specs.Number.{number_word}
use Rattle.emtp_expr.specs.declared.words.Taken.{Taken}
use Rattle.emtp_expr.specs.declared.words.Word.{Word}
use Rattle.emtp_expr.specs.declared.words.Word.TheVariants.{Name, Function, Operator, Not, Open, Close, Nothing}

-- a word and the number of its bytes
abbrev pub taken : Word → ℕ → Taken
taken word n = record { word = word; length = n }

-- the dotted words
abbrev pub dotted_words : List (List ℕ × Word)
dotted_words =
    (codes ".GT.", Operator Gt)
    ∷ (codes ".GE.", Operator Ge)
    ∷ (codes ".LT.", Operator Lt)
    ∷ (codes ".LE.", Operator Le)
    ∷ (codes ".EQ.", Operator Eq)
    ∷ (codes ".NE.", Operator Ne)
    ∷ (codes ".AND.", Operator And)
    ∷ (codes ".OR.", Operator Or)
    ∷ (codes ".NOT.", Not)
    ∷ []

-- the first word of a table with which a text begins
abbrev pub begun_with : List (List ℕ × Word) → List ℕ → Option Taken
begun_with [] text = None
begun_with (entry ∷ table) text =
    if starts_with nat_eq text entry.0 then Some (taken entry.1 (length entry.0)) else begun_with table text

-- the dotted word in front
unfoldable pub dotted : List ℕ → Option Taken
dotted text = begun_with dotted_words text

-- how many digits stand in front
abbrev pub digit_count : List ℕ → ℕ
digit_count text = length (take_while is_ascii_digit text)

-- how many letters and digits stand in front
abbrev pub letter_count : List ℕ → ℕ
letter_count text = length (take_while is_ascii_alphanumeric text)

-- the bytes of a point and the digits after it; the point of a dotted word is part of no number
unfoldable pub fraction_length : List ℕ → ℕ
fraction_length [] = 0
fraction_length (byte ∷ bytes) = if (byte == 46) && is_none (dotted (byte ∷ bytes)) then 1 + digit_count bytes else 0

-- digits with at most one point, at least one digit
unfoldable pub mantissa_length : List ℕ → ℕ
mantissa_length text =
    if (digit_count text == 0) && nat_lt (fraction_length (drop (digit_count text) text)) 2 then 0
    else digit_count text + fraction_length (drop (digit_count text) text)

-- + or -
unfoldable pub sign_length : List ℕ → ℕ
sign_length [] = 0
sign_length (byte ∷ bytes) = if (byte == 43) || (byte == 45) then 1 else 0

-- a sign or none, and one to three digits
unfoldable pub power_length : List ℕ → ℕ
power_length text =
    if digit_count (take 3 (drop (sign_length text) text)) == 0 then 0
    else sign_length text + digit_count (take 3 (drop (sign_length text) text))

-- E or D and a power
unfoldable pub exponent_length : List ℕ → ℕ
exponent_length [] = 0
exponent_length (byte ∷ bytes) =
    if (byte == 69) || (byte == 68) then (if power_length bytes == 0 then 0 else 1 + power_length bytes) else 0

-- a number: as many bytes as its rule allows, and 0 where none stands in front
unfoldable pub number_length : List ℕ → ℕ
number_length text =
    if mantissa_length text == 0 then 0
    else mantissa_length text + exponent_length (drop (mantissa_length text) text)

-- a letter and up to five letters or digits
unfoldable pub name_length : List ℕ → ℕ
name_length [] = 0
name_length (byte ∷ bytes) = if is_ascii_alphabetic byte then 1 + letter_count (take 5 bytes) else 0

-- the functions
abbrev pub functions : List (List ℕ × UnaryOp)
functions = (codes "ABS", Abs) ∷ (codes "SQRT", Sqrt) ∷ (codes "TRUNC", Trunc) ∷ (codes "SIGN", Sign) ∷ []

-- the function of a table that is written so, or else the name of a variable
abbrev pub function_or_name : List (List ℕ × UnaryOp) → List ℕ → Word
function_or_name [] text = Name text
function_or_name (entry ∷ table) text = if bytes_eq text entry.0 then Function entry.1 else function_or_name table text

unfoldable pub name_word : List ℕ → Word
name_word text = function_or_name functions text

-- the words of one byte: + - * / ( )
abbrev pub marks : List (ℕ × Word)
marks = (43, Operator Add) ∷ (45, Operator Sub) ∷ (42, Operator Mul) ∷ (47, Operator Div) ∷ (40, Open) ∷ (41, Close) ∷ []

-- any other byte begins no word
abbrev pub mark_in : List (ℕ × Word) → ℕ → Word
mark_in [] byte = Nothing
mark_in (entry ∷ table) byte = if byte == entry.0 then entry.1 else mark_in table byte

unfoldable pub mark : ℕ → Word
mark byte = mark_in marks byte

abbrev pub first_mark : List ℕ → Word
first_mark [] = Nothing
first_mark (byte ∷ bytes) = mark byte

abbrev pub word_or : Option Taken → Taken → Taken
word_or None other = other
word_or (Some t) other = t

-- the word in front, where no blank stands
unfoldable pub word_at : List ℕ → Taken
word_at text =
    word_or (dotted text)
    (if nat_lt 0 (number_length text) then taken (number_word (take (number_length text) text)) (number_length text)
    else if nat_lt 0 (name_length text) then taken (name_word (take (name_length text) text)) (name_length text)
    else taken (first_mark text) 1)

-- a word and the column in which it begins
pub record Placed : Type 0 where
  pub word : Word
  pub column : ℕ

abbrev pub placed : Word → ℕ → Placed
placed word column = record { word = word; column = column }

-- the words of a text from a column on, after bytes that belong to the word before
unfoldable pub words_from : ℕ → ℕ → List ℕ → List Placed
words_from skip column [] = []
words_from (suc skip) column (byte ∷ bytes) = words_from skip (column + 1) bytes
words_from zero column (byte ∷ bytes) =
    if byte == 32 then words_from zero (column + 1) bytes
    else placed (word_at (byte ∷ bytes)).word column ∷ words_from ((word_at (byte ∷ bytes)).length - 1) (column + 1) bytes

-- the words of a text, each with its column
unfoldable pub words_of : List ℕ → List Placed
words_of text = words_from 0 1 text
