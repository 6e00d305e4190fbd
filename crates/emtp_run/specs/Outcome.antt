-- What a call may come to, and what its status says of counts and outputs.
use Rattle.std.specs.Prelude.{◌≡◌, ◌≢◌, ◌⊎◌, ℕ, ◌≤◌, ℤ, List, [], ◌∷◌, Option, Some, None, IsSomeAnd}
use Rattle.emtp_card.specs.declared.reason.Bad.{Bad}
use Rattle.emtp_case.specs.declared.case.Parts.{Parts}
use Rattle.emtp_comtrade.specs.Record.{cfg_text, dat_text}
use Rattle.emtp_io.specs.Cabinet.{CabinetState, Rose}
use Rattle.emtp_io.specs.Writes.{Written, with_all, AllFit, AreCreated, IsCutShort, StopsCreating}
use Rattle.emtp_io.specs.declared.cabinet.Output.TheVariants.{Cfg, Dat, Note, Summary}
use Rattle.emtp_machine.specs.History.{History, history, samples}
use Rattle.emtp_run.specs.Note.{usage_note, card_note, row_note}
use Rattle.emtp_run.specs.Texts.{run_note, trial_text}
use Rattle.emtp_run.specs.Words.{RunFiles}
use Rattle.emtp_run.specs.declared.status.Status.{Status}
use Rattle.emtp_run.specs.declared.status.Status.TheVariants.{Done, Usage, BadCard, Ended, ReadFault, WriteFault, NoMemory, Refused, Differs, BadRow}

-- a status, and the outputs in the order in which they are made
pub record Outcome : Type 0 where
  pub status : Status
  pub writes : List Written

abbrev pub note : List ℕ → Written
note text = record { out = Note; name = []; bytes = text }

-- a refusal leaves its note alone
abbrev pub refusal : Status → List ℕ → Outcome
refusal status text = record { status = status; writes = note text ∷ [] }

abbrev pub usage : Outcome
usage = refusal Usage usage_note

-- a card was refused
abbrev pub bad_card : Bad → Outcome
bad_card bad = refusal BadCard (card_note bad)

-- a row of a table was refused
abbrev pub bad_row : ℕ → ℕ → Outcome
bad_row line item = refusal BadRow (row_note line item)

-- the status of a run that ended early or not
abbrev pub status_of : {X : Type 0} → Option X → Status
status_of None = Done
status_of (Some end) = Ended

-- the two files of a record, from the samples
abbrev pub cfg : List ℕ → Parts → List (List ℤ) → Written
cfg name case rows = record { out = Cfg; name = name; bytes = cfg_text case rows }

abbrev pub dat : List ℕ → Parts → List (List ℤ) → Written
dat name case rows = record { out = Dat; name = name; bytes = dat_text case rows }

abbrev pub summary : List ℕ → Written
summary text = record { out = Summary; name = []; bytes = text }

-- the record and the note of a run, from the case's history
abbrev pub record_writes : RunFiles → Parts → History → List Written
record_writes files case h =
    cfg files.cfg case (samples case h) ∷ dat files.dat case (samples case h) ∷ note (run_note case h) ∷ []

-- a trial leaves its summary alone
abbrev pub trial_writes : ℕ → Parts → History → List Written
trial_writes number case h = summary (trial_text number case h) ∷ []

-- the case was run to its end, with these outputs
abbrev pub ran : Parts → List Written → Outcome
ran case writes = record { status = status_of (history case).end; writes = writes }

-- a tool that came to its end leaves its summary alone
abbrev pub summarised : List ℕ → Outcome
summarised text = record { status = Done; writes = summary text ∷ [] }

-- a solution that ended early leaves its note alone
abbrev pub ended_alone : List ℕ → Outcome
ended_alone text = record { status = Ended; writes = note text ∷ [] }

-- no file was opened, and so no failure of one is answered
pub record IsUnopened (status : Status) (old new : CabinetState) : Type 0 where
  pub unread : new.unread ≡ old.unread
  pub inputs : new.faults_in ≡ old.faults_in
  pub read : status ≢ ReadFault

-- What is said of a call by how it ends: one thing for each of five ways.
pub record Says : Type 1 where
  -- all that it came to was made
  pub made : Type 0
  -- a refusal, whose note is all that is made
  pub noted : Type 0
  -- a file couldn't be read, and nothing is made
  pub unread : Type 0
  -- an output couldn't be made, and none after it is begun
  pub cut : Type 0
  -- memory was wanting, and nothing is made
  pub wanting : Type 0

-- the table of statuses: in which of these ways each ends
abbrev pub says : Says → Status → Type 0
says of Done = of.made
says of Usage = of.noted
says of BadCard = of.noted
says of Ended = of.made
says of ReadFault = of.unread
says of WriteFault = of.cut
says of NoMemory = of.wanting
says of Refused = of.noted
says of Differs = of.noted
says of BadRow = of.noted

-- the run came to its end, by itself or early
abbrev pub IsFinished : Status → Type 0
IsFinished = says (record { made = Unit {0}; noted = ⊥; unread = ⊥; cut = ⊥; wanting = ⊥ })

-- the case was run, whether or not all that it came to could be written; before a refusal only where a record differs
abbrev pub HasRun : Status → Type 0
HasRun status = says (record { made = Unit {0}; noted = status ≡ Differs; unread = ⊥; cut = Unit {0}; wanting = ⊥ }) status

-- all of it was made
abbrev pub IsMade : Option Outcome → Status → CabinetState → CabinetState → Type 0
IsMade o status old new = IsSomeAnd o (λ o. (o.status ≡ status) × (new.outputs ≡ with_all old.outputs o.writes))

-- all is whole, or a call on an output failed and it is cut short
abbrev pub IsWholeOrCut : List Written → CabinetState → CabinetState → Type 0
IsWholeOrCut writes old new =
    (new.outputs ≡ with_all old.outputs writes)
    ⊎ (Rose old.faults_out new.faults_out × IsCutShort old.outputs writes new.outputs)

-- a refusal, with its note
abbrev pub IsNoted : Option Outcome → Status → CabinetState → CabinetState → Type 0
IsNoted o status old new = IsSomeAnd o (λ o. (o.status ≡ status) × IsWholeOrCut o.writes old new)

-- what a status says of the outputs of a call with this outcome
abbrev pub Settles : Status → Option Outcome → CabinetState → CabinetState → Type 0
Settles status o old new =
    let same = new.outputs ≡ old.outputs in
    let short = IsSomeAnd o (λ o. IsFinished o.status × IsCutShort old.outputs o.writes new.outputs) in
    says (record { made = IsMade o status old new; noted = IsNoted o status old new; unread = same; cut = short; wanting = same }) status

-- what a status says of the counts of faults
abbrev pub HasStatusCause : Status → CabinetState → CabinetState → Type 0
HasStatusCause status old new = says (record {
  made = (new.faults_in ≡ old.faults_in) × (new.faults_out ≡ old.faults_out);
  noted = (new.faults_in ≡ old.faults_in) × (old.faults_out ≤ new.faults_out);
  unread = Rose old.faults_in new.faults_in × (new.faults_out ≡ old.faults_out);
  cut = (new.faults_in ≡ old.faults_in) × Rose old.faults_out new.faults_out;
  wanting = (new.faults_in ≡ old.faults_in) × (new.faults_out ≡ old.faults_out);
}) status

-- the record of a run is as it was
abbrev pub KeepsRecord : CabinetState → CabinetState → Type 0
KeepsRecord old new = (new.outputs.cfg ≡ old.outputs.cfg) × (new.outputs.dat ≡ old.outputs.dat)

-- what a status says of the outputs over any cabinet, whether it tells what they hold or not
abbrev pub Leaves : Status → CabinetState → CabinetState → Type 0
Leaves status old new =
    let same = new.outputs ≡ old.outputs in
    says (record { made = Unit {0}; noted = KeepsRecord old new; unread = same; cut = Unit {0}; wanting = same }) status

-- One call of `create` was made, for the note: it was created and written, or one of the calls on it failed. So over any cabinet.
abbrev pub TriesNote : CabinetState → CabinetState → Type 0
TriesNote old new =
    AreCreated (Note ∷ []) old.creates new
    ⊎ (Rose old.faults_out new.faults_out × StopsCreating (Note ∷ []) old.creates new)

-- neither count rose, and no failure is answered
pub record IsCalmRun (status : Status) (old new : CabinetState) : Type 0 where
  pub inputs : new.faults_in ≡ old.faults_in
  pub outputs : new.faults_out ≡ old.faults_out
  pub read : status ≢ ReadFault
  pub write : status ≢ WriteFault

-- the outcome has room
abbrev pub HasRoomFor : Option Outcome → ℕ → Type 0
HasRoomFor o room = IsSomeAnd o (λ o. AllFit o.writes room)

-- A call on a file that is read failed, or one on an output did; or all of the outcome was made and its status answered; or memory
-- was wanting and nothing was made.
abbrev pub IsComplete : Status → CabinetState → CabinetState → Outcome → Type 0
IsComplete status old new o =
    Rose old.faults_in new.faults_in ⊎ Rose old.faults_out new.faults_out
    ⊎ ((status ≡ o.status) × (new.outputs ≡ with_all old.outputs o.writes))
    ⊎ ((status ≡ NoMemory) × (new.outputs ≡ old.outputs))
