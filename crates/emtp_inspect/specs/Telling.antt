-- What is told of the bytes of a file.
use Rattle.std.specs.Prelude.{◌-◌, ◌++◌, List, [], Option, Some, None, Result, Ok, Err, codes, decimal, length, nat_le, slice_get, take, ℕ}
use Rattle.emtp_card.specs.Cards.{size_fault}
use Rattle.emtp_card.specs.Lines.{lines_of}
use Rattle.emtp_card.specs.declared.reason.Bad.{Bad}
use Rattle.emtp_case.specs.declared.case.Parts.{Parts}
use Rattle.emtp_causes.specs.KindText.{kinds_text, section_text}
use Rattle.emtp_causes.specs.Kinds.{kind_name}
use Rattle.emtp_causes.specs.Refusal.{refusal_text, size_text}
use Rattle.emtp_deck.specs.Deck.{deck_of}
use Rattle.emtp_fields.specs.Lines.{all_fields}
use Rattle.emtp_fields.specs.Refused.{refused_field}
use Rattle.emtp_inspect.specs.ChannelCards.{channels_text}
use Rattle.emtp_inspect.specs.CopyCards.{copies_text}
use Rattle.emtp_inspect.specs.RunCards.{run_text}
use Rattle.emtp_inspect.specs.declared.telling.Told.{Told}
use Rattle.emtp_inspect.specs.declared.telling.Told.TheVariants.{Answer, Refusal}
use Rattle.emtp_inspect.specs.declared.words.Wanted.{Wanted}
use Rattle.emtp_inspect.specs.declared.words.Wanted.TheVariants.{Cause, Fields, Kinds, Listing, WarningCount}
use Rattle.emtp_listing.specs.Lines.{lines_text}
use Rattle.emtp_listing.specs.Listing.{listing}
use Rattle.emtp_run.specs.Note.{card_note}
use Rattle.emtp_walk.specs.Readings.{line_readings}
use Rattle.emtp_walk.specs.declared.kind.LineReading.{LineReading}
use Rattle.emtp_warnings.specs.WarningText.{warnings_text}
use Rattle.emtp_warnings.specs.Warnings.{warnings}

-- ---- the records of the first lines

abbrev pub listed_by : Result Parts Bad → List ℕ
listed_by (Ok case) = listing case
listed_by (Err bad) = []

abbrev pub listed_lines_of : List (List ℕ) → List ℕ
listed_lines_of lines = listed_by (deck_of lines)

abbrev pub listed_sized : Option Bad → List (List ℕ) → List ℕ
listed_sized (Some bad) lines = []
listed_sized None lines = listed_lines_of lines

-- the listing of a text's case, or nothing where it is none
abbrev pub listed_of : List ℕ → List ℕ
listed_of text = listed_sized (size_fault text) (lines_of text)

-- an end of each section, of the control and of the network; those that aren't needed stand behind the last section
abbrev pub ends_text : List ℕ
ends_text = codes "BLANK\nBLANK\nBLANK\nBLANK\nBLANK\nBLANK\nBLANK\nBLANK\nBLANK\n"

-- so many lines, with all sections ended behind them
abbrev pub listed_front : List (List ℕ) → ℕ → List ℕ
listed_front lines count = listed_of (lines_text (take count lines) ++ ends_text)

-- ---- a card that is refused

-- the whole records before it, its note, and as what it was read
abbrev pub refused_by : List (List ℕ) → Bad → Option LineReading → List ℕ
refused_by lines bad None = card_note bad
refused_by lines bad (Some read) =
    (listed_front lines (read.first - 1) ++ card_note bad)
    ++ section_text bad.line (nat_le bad.line (length lines)) (kind_name read.kind)

abbrev pub refused_text : List LineReading → List (List ℕ) → Bad → List ℕ
refused_text readings lines bad = refused_by lines bad (slice_get readings (bad.line - 1))

-- ---- a case that is accepted

-- what the cards say that no case keeps: the miscellaneous ones, those that copy, and those that ask for channels
abbrev pub cards_text : List LineReading → List (List ℕ) → Parts → List ℕ
cards_text readings lines case = run_text readings lines ++ copies_text readings lines case ++ channels_text readings lines case

-- its warnings, and behind them its listing and what the cards say besides
abbrev pub listing_text : List LineReading → List (List ℕ) → Parts → List ℕ
listing_text readings lines case =
    warnings_text readings lines (warnings readings lines case) ++ listing case ++ cards_text readings lines case

-- or how many these are
abbrev pub count_text : List LineReading → List (List ℕ) → Parts → List ℕ
count_text readings lines case = decimal (length (warnings readings lines case)) ++ codes "\n"

-- ---- the whole

abbrev pub told_case : (List LineReading → List (List ℕ) → Parts → List ℕ) → List LineReading → List (List ℕ)
    → Result Parts Bad → Told
told_case text readings lines (Ok case) = Answer (text readings lines case)
told_case text readings lines (Err bad) = Refusal (refused_text readings lines bad)

-- what helps to mend a card that is refused; nothing of a case
abbrev pub cause_of : List LineReading → List (List ℕ) → Result Parts Bad → List ℕ
cause_of readings lines (Ok case) = []
cause_of readings lines (Err bad) = refusal_text readings lines bad

-- behind the fields of the lines what is warned of; or where the refusal points, its note, and what helps to mend the card
abbrev pub behind_fields : List LineReading → List (List ℕ) → Result Parts Bad → List ℕ
behind_fields readings lines (Ok case) = warnings_text readings lines (warnings readings lines case)
behind_fields readings lines (Err bad) =
    refused_field readings lines bad ++ card_note bad ++ refusal_text readings lines bad

abbrev pub fields_told : List LineReading → List (List ℕ) → Result Parts Bad → List ℕ
fields_told readings lines case = all_fields 0 readings lines ++ behind_fields readings lines case

abbrev pub told_of_lines : Wanted → List (List ℕ) → Told
told_of_lines Listing lines = told_case listing_text (line_readings lines) lines (deck_of lines)
told_of_lines WarningCount lines = told_case count_text (line_readings lines) lines (deck_of lines)
told_of_lines Kinds lines = Answer (kinds_text (length lines) 1 (line_readings lines))
told_of_lines Cause lines = Answer (cause_of (line_readings lines) lines (deck_of lines))
told_of_lines Fields lines = Answer (fields_told (line_readings lines) lines (deck_of lines))

-- of too many lines or bytes none are read
abbrev pub told_unread : Wanted → Bad → Told
told_unread Cause bad = Answer size_text
told_unread wanted bad = Refusal (card_note bad)

abbrev pub told_sized : Wanted → Option Bad → List (List ℕ) → Told
told_sized wanted (Some bad) lines = told_unread wanted bad
told_sized wanted None lines = told_of_lines wanted lines

abbrev pub told_of : Wanted → List ℕ → Told
told_of wanted bytes = told_sized wanted (size_fault bytes) (lines_of bytes)
