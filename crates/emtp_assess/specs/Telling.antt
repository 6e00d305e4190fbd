-- What is told of the bytes of a file: what the run of their case came to.
use Rattle.std.specs.Prelude.{◌+◌, ◌++◌, [], length, List, Option, Some, None, Result, Ok, Err, codes, decimal, ℕ}
use Rattle.emtp_assess.specs.BranchWarnings.{branch_warnings}
use Rattle.emtp_assess.specs.JudgedLines.{judged_lines}
use Rattle.emtp_assess.specs.RangeLine.{range_text}
use Rattle.emtp_assess.specs.SampleLines.{sample_lines}
use Rattle.emtp_assess.specs.declared.words.Question.{Question}
use Rattle.emtp_assess.specs.declared.words.Question.TheVariants.{Count, Samples, Worth}
use Rattle.emtp_card.specs.Cards.{size_fault}
use Rattle.emtp_card.specs.Lines.{lines_of}
use Rattle.emtp_card.specs.declared.reason.Bad.{Bad}
use Rattle.emtp_case.specs.declared.case.Parts.{Parts}
use Rattle.emtp_deck.specs.Deck.{deck_of}
use Rattle.emtp_inspect.specs.declared.telling.Told.{Told}
use Rattle.emtp_inspect.specs.declared.telling.Told.TheVariants.{Answer, Refusal}
use Rattle.emtp_machine.specs.History.{History, history, samples}
use Rattle.emtp_run.specs.Note.{card_note}
use Rattle.emtp_run.specs.Texts.{run_note}
use Rattle.emtp_walk.specs.Readings.{line_readings}
use Rattle.emtp_walk.specs.declared.kind.LineReading.{LineReading}
use Rattle.emtp_warnings.specs.WarningText.{warnings_text}
use Rattle.emtp_warnings.specs.Warnings.{warnings}
use Rattle.emtp_worth.specs.Judged.{all_judged}

-- the note of a case's history, and a line a sample
abbrev pub samples_text : Parts → History → List ℕ
samples_text case h = run_note case h ++ sample_lines (samples case h) (length case.channels)

-- what a run is worth: its note, what was nearest to the end of its range where a step left it, the warnings of branches that
-- act as others, and how far points lay off their characteristics
abbrev pub worth_text : List LineReading → List (List ℕ) → Parts → History → List ℕ
worth_text readings lines case h =
    run_note case h ++ range_text case h ++ warnings_text readings lines (branch_warnings (warnings readings lines case))
    ++ judged_lines case.nodes (all_judged case h.records)

-- how many of these warnings there are, and branches with a characteristic: all that may be judged
abbrev pub count_to_judge : List LineReading → List (List ℕ) → Parts → ℕ
count_to_judge readings lines case =
    length (branch_warnings (warnings readings lines case)) + length (all_judged case [])

-- what is asked of the run of a case, which these lines are
abbrev pub text_for : Question → List (List ℕ) → Parts → List ℕ
text_for Worth lines case = worth_text (line_readings lines) lines case (history case)
text_for Samples lines case = samples_text case (history case)
text_for Count lines case = decimal (count_to_judge (line_readings lines) lines case) ++ codes "\n"

-- a card that is refused leaves its note
abbrev pub judged_by : Question → List (List ℕ) → Result Parts Bad → Told
judged_by question lines (Ok case) = Answer (text_for question lines case)
judged_by question lines (Err bad) = Refusal (card_note bad)

-- of too many lines or bytes none are read
abbrev pub judged_sized : Question → Option Bad → List (List ℕ) → Told
judged_sized question (Some bad) lines = Refusal (card_note bad)
judged_sized question None lines = judged_by question lines (deck_of lines)

-- what the bytes of a file give
abbrev pub judged_of : Question → List ℕ → Told
judged_of question bytes = judged_sized question (size_fault bytes) (lines_of bytes)
