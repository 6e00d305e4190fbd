-- How a call ends that reads a file and tells what was read.
use Rattle.std.specs.Prelude.{◌≡◌, ◌⊎◌, ◌∷◌, [], List, Option, Some, None, Result, Ok, Err, IfOk, IsTrue, ℕ}
use Rattle.std.specs.declared.alloc.Global.{Global}
use Rattle.std.specs.declared.vec.Vec.{Vec}
use Rattle.emtp_inspect.specs.Telling.{told_of}
use Rattle.emtp_inspect.specs.declared.telling.Told.{Told}
use Rattle.emtp_inspect.specs.declared.telling.Told.TheVariants.{Answer, Refusal}
use Rattle.emtp_inspect.specs.declared.words.Wanted.{Wanted}
use Rattle.emtp_io.specs.Cabinet.{CabinetState}
use Rattle.emtp_io.specs.declared.whole.ReadEnd.{ReadEnd}
use Rattle.emtp_io.specs.declared.whole.ReadEnd.TheVariants.{Failed, NoMemory as Wanting}
use Rattle.emtp_run.specs.Command.{text_file}
use Rattle.emtp_run.specs.Inputs.{content}
use Rattle.emtp_run.specs.held.Inputs.{ReadsInputs}
use Rattle.emtp_run.specs.Outcome.{Outcome, refusal, summarised, usage}
use Rattle.emtp_run.specs.held.Outcome.{Ends, EndsAfterReading}
use Rattle.emtp_run.specs.declared.status.Status.{Status}
use Rattle.emtp_run.specs.declared.status.Status.TheVariants.{BadCard, NoMemory, ReadFault, Usage}

-- ---- what it comes to

-- an answer leaves a summary, a refusal its note
abbrev pub told_outcome : Told → Outcome
told_outcome (Answer text) = summarised text
told_outcome (Refusal text) = refusal BadCard text

-- how it ends where a file wasn't read
abbrev pub unread_status : ReadEnd → Status
unread_status Failed = ReadFault
unread_status Wanting = NoMemory

-- what comes after the reading of a file, by its bytes or by why it couldn't be read
abbrev pub TellsOf : (List ℕ → Told) → Result (Vec ℕ Global) ReadEnd → Status → CabinetState → CabinetState → Type 0
TellsOf told (Ok bytes) status old new = EndsAfterReading status (told_outcome (told bytes.items)) old new
TellsOf told (Err end) status old new = (status ≡ unread_status end) × (new ≡ old)

-- a file is read, as the commands of `emtp` read theirs, and then what its bytes give is told
pub record Shows (told : List ℕ → Told) (name : List ℕ) (status : Status) (old new : CabinetState) : Type 0 where
  -- the cabinet once the file was read, and its bytes or why they aren't there
  pub between : CabinetState
  pub end : Result (Vec ℕ Global) ReadEnd
  pub reading : ReadsInputs (text_file name ∷ []) old between end
  pub bytes : IsTrue old.nature.tells → IfOk end (λ v. content old.nature.files (text_file name) ≡ Some v.items)
  pub telling : TellsOf told end status between new

-- words that don't fit leave the note of usage, and open no file
pub record RefusesWords (status : Status) (old new : CabinetState) : Type 0 where
  pub status_is : status ≡ Usage
  pub unread : new.unread ≡ old.unread
  pub ends : Ends status (Some usage) old new

-- words of a note leave what they mean; others don't fit, or memory was wanting to tell which they are, and nothing was done
abbrev pub Explains : Option (List ℕ) → Status → CabinetState → CabinetState → Type 0
Explains None status old new = RefusesWords status old new ⊎ ((status ≡ NoMemory) × (new ≡ old))
Explains (Some text) status old new = EndsAfterReading status (summarised text) old new

-- by what the words ask of a file, or else what they mean
abbrev pub ShowsOrExplains : Option (Wanted × List ℕ) → Option (List ℕ) → Status → CabinetState → CabinetState → Type 0
ShowsOrExplains None meaning status old new = Explains meaning status old new
ShowsOrExplains (Some a) meaning status old new = Shows (told_of a.0) a.1 status old new
