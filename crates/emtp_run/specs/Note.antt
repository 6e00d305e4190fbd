-- The one line that a call leaves on how it ended.
use Rattle.std.specs.Prelude.{ℕ, List, ◌++◌, Option, Some, None, codes, decimal}
use Rattle.emtp_card.specs.Reason.{reason_number}
use Rattle.emtp_card.specs.declared.reason.Bad.{Bad}
use Rattle.emtp_card.specs.declared.reason.Why.{Why}
use Rattle.emtp_card.specs.declared.reason.Why.TheVariants.{ByteOutside, PastColumn80, NotANumber, NotWhole, OutOfUnitRange, TooManyLines, BadType, BadName, BadImpedance, ShortLine, BadPoints, BadOrder, UnknownName, TwoSources, TooMany, MissingSection, TooManySamples, BadExpression}
use Rattle.emtp_machine.specs.End.{cause_word, measured_text}
use Rattle.emtp_machine.specs.declared.end.End.{End}

unfoldable pub usage_note : List ℕ
usage_note = codes "USAGE\n"

abbrev pub reason_name : Why → List ℕ
reason_name ByteOutside = codes "ByteOutside"
reason_name PastColumn80 = codes "PastColumn80"
reason_name NotANumber = codes "NotANumber"
reason_name NotWhole = codes "NotWhole"
reason_name OutOfUnitRange = codes "OutOfUnitRange"
reason_name TooManyLines = codes "TooManyLines"
reason_name BadType = codes "BadType"
reason_name BadName = codes "BadName"
reason_name BadImpedance = codes "BadImpedance"
reason_name ShortLine = codes "ShortLine"
reason_name BadPoints = codes "BadPoints"
reason_name BadOrder = codes "BadOrder"
reason_name UnknownName = codes "UnknownName"
reason_name TwoSources = codes "TwoSources"
reason_name TooMany = codes "TooMany"
reason_name MissingSection = codes "MissingSection"
reason_name TooManySamples = codes "TooManySamples"
reason_name BadExpression = codes "BadExpression"

-- where a card is refused, and why
unfoldable pub card_note : Bad → List ℕ
card_note bad =
    codes "BAD CARD LINE " ++ decimal bad.line ++ codes " COLUMN " ++ decimal bad.column
    ++ codes " REASON " ++ decimal (reason_number bad.why) ++ codes " " ++ reason_name bad.why ++ codes "\n"

-- where a row of a table is refused
unfoldable pub row_note : ℕ → ℕ → List ℕ
row_note line item = codes "BAD ROW LINE " ++ decimal line ++ codes " ITEM " ++ decimal item ++ codes "\n"

-- how many samples there are, and how many rows were redone
abbrev pub counts_text : ℕ → ℕ → List ℕ
counts_text samples redone = codes " SAMPLES " ++ decimal samples ++ codes " REDONE " ++ decimal redone

-- so many steps and samples were made
unfoldable pub done_text : ℕ → ℕ → ℕ → List ℕ
done_text steps samples redone = codes " STEPS " ++ decimal steps ++ counts_text samples redone

abbrev pub done_note : ℕ → ℕ → ℕ → List ℕ
done_note steps samples redone = codes "DONE" ++ done_text steps samples redone ++ codes "\n"

-- the step that has no record, why, what is named, and how many samples stand before it
unfoldable pub ended_note : End → ℕ → ℕ → List ℕ
ended_note end samples redone =
    codes "ENDED STEP " ++ decimal end.step ++ codes " " ++ cause_word end.cause ++ codes " " ++ end.name
    ++ measured_text end.cause end.measured ++ counts_text samples redone ++ codes "\n"

-- of a run with this end, or none, of so many steps
abbrev pub note_by : Option End → ℕ → ℕ → ℕ → List ℕ
note_by None steps samples redone = done_note steps samples redone
note_by (Some end) steps samples redone = ended_note end samples redone
