-- What is told after a run that isn't whole, by its status, its note and its words, and by the file that the note speaks of.
use Rattle.std.specs.Prelude.{◌≡◌, ◌++◌, ◌-◌, ◌==◌, ◌||◌, ◌∷◌, [], Bool, false, true, List, Option, Some, None, Result, Ok, Err, IfOk, IsTrue, codes, if◌then◌else◌, nat_le, ℕ}
use Rattle.std.specs.Str.{bytes_eq}
use Rattle.std.specs.declared.alloc.Global.{Global}
use Rattle.std.specs.declared.vec.Vec.{Vec}
use Rattle.emtp_batch.specs.Table.{is_skipped}
use Rattle.emtp_batch.specs.declared.table.TheConstants.{MAX_ROWS}
use Rattle.emtp_card.specs.Lines.{lines_of}
use Rattle.emtp_causes.specs.Misfit.{misfit_text}
use Rattle.emtp_causes.specs.Notes.{differs_text, ended_text, is_range_of_run, item_of, number_in, row_text, unsolved_case}
use Rattle.emtp_inspect.specs.CaseAgain.{case_in, frequency_text, growing_in}
use Rattle.emtp_inspect.specs.Telling.{told_of}
use Rattle.emtp_inspect.specs.declared.after_run.TheConstants.{CUT_SHORT, NO_MEMORY, UNREAD}
use Rattle.emtp_inspect.specs.declared.telling.Told.{Told}
use Rattle.emtp_inspect.specs.declared.telling.Told.TheVariants.{Answer, Refusal}
use Rattle.emtp_inspect.specs.declared.words.Wanted.TheVariants.{Cause}
use Rattle.emtp_io.specs.Cabinet.{CabinetState}
use Rattle.emtp_io.specs.declared.whole.ReadEnd.{ReadEnd}
use Rattle.emtp_io.specs.declared.whole.ReadEnd.TheVariants.{Failed, NoMemory as Wanting}
use Rattle.emtp_run.specs.Command.{record_file, text_file}
use Rattle.emtp_run.specs.Inputs.{Input, content}
use Rattle.emtp_run.specs.Outcome.{summarised}
use Rattle.emtp_run.specs.Words.{is_name}
use Rattle.emtp_run.specs.declared.status.Status.{Status}
use Rattle.emtp_run.specs.declared.status.Status.TheVariants.{NoMemory, ReadFault}
use Rattle.emtp_run.specs.held.Inputs.{ReadsInputs}
use Rattle.emtp_run.specs.held.Outcome.{EndsAfterReading}

-- ---- words

-- the word behind the command, and those behind it
abbrev pub second : List (List ℕ) → List ℕ
second [] = []
second (command ∷ []) = []
second (command ∷ word ∷ more) = word

abbrev pub third : List (List ℕ) → List ℕ
third [] = []
third (command ∷ []) = []
third (command ∷ a ∷ []) = []
third (command ∷ a ∷ word ∷ more) = word

abbrev pub fourth : List (List ℕ) → List ℕ
fourth [] = []
fourth (command ∷ []) = []
fourth (command ∷ a ∷ []) = []
fourth (command ∷ a ∷ b ∷ []) = []
fourth (command ∷ a ∷ b ∷ word ∷ more) = word

-- the word for the file of a record that differs
abbrev pub differing : List ℕ → List (List ℕ) → List ℕ
differing note words = if bytes_eq (item_of 2 note) (codes "CFG") then third words else fourth words

-- the name of a file as it is told; one that can't be read again, as that of a pipe, has a dash in front
abbrev pub shown_name : List ℕ → List ℕ
shown_name [] = []
shown_name (first ∷ rest) = if first == 45 then rest else first ∷ rest

-- ---- the file that is read again

-- a file, where it has a name
abbrev pub again : Input → Option Input
again file = if is_name file.name then Some file else None

-- of a run that ended since a number of the network left its range, the case
abbrev pub case_of_range : List ℕ → List (List ℕ) → Option Input
case_of_range note words = if is_range_of_run note then again (text_file (second words)) else None

-- the case whose card is refused or whose run left its range, the file of a record that differs, or the table
abbrev pub file_again : List ℕ → List ℕ → List (List ℕ) → Option Input
file_again status note words =
    if bytes_eq status (codes "2") || bytes_eq status (codes "7") then again (text_file (second words))
    else if bytes_eq status (codes "3") then case_of_range note words
    else if bytes_eq status (codes "8") then again (record_file (differing note words))
    else if bytes_eq status (codes "9") then again (text_file (third words))
    else None

-- ---- its lines

-- the line of a number, from 1 on; nothing where it isn't there
abbrev pub line_at : ℕ → List (List ℕ) → List ℕ
line_at number [] = []
line_at number (line ∷ lines) = if nat_le number 1 then line else line_at (number - 1) lines

abbrev pub line_in : Option ℕ → List (List ℕ) → List ℕ
line_in None lines = []
line_in (Some number) lines = line_at number lines

-- line 1 stands for the whole case, and none is told
abbrev pub card_at : Option ℕ → List (List ℕ) → List ℕ
card_at None lines = []
card_at (Some number) lines = if number == 1 then [] else line_at number lines

abbrev pub card_in : List ℕ → List (List ℕ) → List ℕ
card_in note lines = card_at (number_in 3 note) lines

-- the room of a table behind a line, which is a row or none
abbrev pub behind_row : ℕ → List ℕ → ℕ
behind_row room line = if is_skipped line then room else room - 1

-- the room that is left behind so many lines
abbrev pub room_left : ℕ → ℕ → List (List ℕ) → ℕ
room_left room count [] = room
room_left room count (line ∷ lines) = if count == 0 then room else room_left (behind_row room line) (count - 1) lines

-- as many rows as a table has at most stand in front of a line
abbrev pub is_full : Option ℕ → List (List ℕ) → Bool
is_full None lines = false
is_full (Some number) lines = room_left MAX_ROWS (number - 1) lines == 0

-- ---- what is told

-- without a file
unfoldable pub told_alone : List ℕ → List ℕ → List (List ℕ) → List ℕ
told_alone status note words =
    if bytes_eq status (codes "1") then misfit_text words
    else if bytes_eq status (codes "3") then ended_text note
    else if bytes_eq status (codes "4") then UNREAD.now
    else if bytes_eq status (codes "5") then CUT_SHORT.now
    else if bytes_eq status (codes "6") then NO_MEMORY.now
    else if bytes_eq status (codes "7") then unsolved_case note []
    else if bytes_eq status (codes "8") then differs_text note (shown_name (differing note words)) []
    else []

abbrev pub text_of : Told → List ℕ
text_of (Answer text) = text
text_of (Refusal text) = text

-- what helps to mend the card that is refused
unfoldable pub mending_text : List ℕ → List ℕ
mending_text bytes = text_of (told_of Cause bytes)

-- by the lines of a table
abbrev pub row_in : List ℕ → List (List ℕ) → List ℕ
row_in note lines = row_text note (line_in (number_in 4 note) lines) (is_full (number_in 4 note) lines)

-- what an early end means, behind the branch of its case that makes a current grow
unfoldable pub ended_again : List ℕ → List ℕ → List ℕ
ended_again note bytes = growing_in note (case_in bytes) ++ ended_text note

-- why a case has no steady state, and of one without a frequency whether its control has a cosine
unfoldable pub unsolved_again : List ℕ → List ℕ → List ℕ
unsolved_again note bytes = unsolved_case note (card_in note (lines_of bytes)) ++ frequency_text note bytes

-- by the bytes of the file that the note speaks of
unfoldable pub told_again : List ℕ → List ℕ → List (List ℕ) → List ℕ → List ℕ
told_again status note words bytes =
    if bytes_eq status (codes "2") then mending_text bytes
    else if bytes_eq status (codes "3") then ended_again note bytes
    else if bytes_eq status (codes "7") then unsolved_again note bytes
    else if bytes_eq status (codes "8") then differs_text note (differing note words) (line_in (number_in 4 note) (lines_of bytes))
    else row_in note (lines_of bytes)

-- ---- how a call ends that tells it

-- the case of an early end that couldn't be read leaves what is told without it
abbrev pub EndsFailed : Bool → List ℕ → List ℕ → List (List ℕ) → Status → CabinetState → CabinetState → Type 0
EndsFailed true status note words end old new = EndsAfterReading end (summarised (told_alone status note words)) old new
EndsFailed false status note words end old new = (end ≡ ReadFault) × (new ≡ old)

abbrev pub EndsUnread : ReadEnd → List ℕ → List ℕ → List (List ℕ) → Status → CabinetState → CabinetState → Type 0
EndsUnread Failed status note words end old new = EndsFailed (bytes_eq status (codes "3")) status note words end old new
EndsUnread Wanting status note words end old new = (end ≡ NoMemory) × (new ≡ old)

-- what comes after the reading of the file, by its bytes or by why it couldn't be read
abbrev pub RetellsOf : List ℕ → List ℕ → List (List ℕ) → Result (Vec ℕ Global) ReadEnd → Status → CabinetState → CabinetState
    → Type 0
RetellsOf status note words (Ok bytes) end old new =
    EndsAfterReading end (summarised (told_again status note words bytes.items)) old new
RetellsOf status note words (Err why) end old new = EndsUnread why status note words end old new

-- a file is read, and then what a status means is told by it
pub record Retells (file : Input) (status note : List ℕ) (words : List (List ℕ)) (end : Status) (old new : CabinetState) : Type 0 where
  -- the cabinet once the file was read, and its bytes or why they aren't there
  pub between : CabinetState
  pub held : Result (Vec ℕ Global) ReadEnd
  pub reading : ReadsInputs (file ∷ []) old between held
  pub bytes : IsTrue old.nature.tells → IfOk held (λ v. content old.nature.files file ≡ Some v.items)
  pub telling : RetellsOf status note words held end between new

abbrev pub TellsOver : Option Input → List ℕ → List ℕ → List (List ℕ) → Status → CabinetState → CabinetState → Type 0
TellsOver None status note words end old new = EndsAfterReading end (summarised (told_alone status note words)) old new
TellsOver (Some file) status note words end old new = Retells file status note words end old new

-- what a status means is told, by its number, and the note and the words of its run
abbrev pub TellsAfter : List ℕ → List ℕ → List (List ℕ) → Status → CabinetState → CabinetState → Type 0
TellsAfter status note words end old new = TellsOver (file_again status note words) status note words end old new
