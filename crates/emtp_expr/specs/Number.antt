-- The numbers of an expression, in nano.
use Rattle.std.specs.Prelude.{ℕ, ℤ, pos, int_lt, List, Option, Some, None, Result, Ok, Err, if◌then◌else◌}
use Rattle.emtp_card.specs.Number.{read_number_of}
use Rattle.emtp_card.specs.declared.reason.Why.{Why}
use Rattle.emtp_fix.specs.Limit.{in_range}
use Rattle.emtp_fix.specs.declared.limit.TheConstants.{LARGEST_VALUE}
use Rattle.emtp_expr.specs.declared.words.Word.{Word}
use Rattle.emtp_expr.specs.declared.words.Word.TheVariants.{Number, Nothing}

-- a number in range is a word; a sign is a word of its own
abbrev pub word_of : Option ℤ → Word
word_of None = Nothing
word_of (Some x) = if int_lt x (pos 0) then Nothing else Number x

abbrev pub number_read : Result ℤ Why → Word
number_read (Ok x) = word_of (in_range x)
number_read (Err why) = Nothing

abbrev pub number_word : List ℕ → Word
number_word text = number_read (read_number_of text (pos 9) (pos LARGEST_VALUE))
