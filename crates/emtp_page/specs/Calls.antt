-- What holds of a call over files that a host hands over.
use Rattle.std.specs.Prelude.{◌≡◌, ◌↔◌, ◌⊎◌, ℕ, true, List, None, IfSome, All}
use Rattle.emtp_assess.specs.Asking.{question_in}
use Rattle.emtp_assess.specs.Assessing.{Assesses}
use Rattle.emtp_inspect.specs.Asking.{asked, explained, past_run}
use Rattle.emtp_inspect.specs.Inspecting.{Inspects}
use Rattle.emtp_io.specs.Cabinet.{CabinetState, Outputs}
use Rattle.emtp_io.specs.held.Cabinet.{no_outputs}
use Rattle.emtp_io.specs.held.Files.{File, file_named}
use Rattle.emtp_machine.specs.Laws.{EndsWithin, SamplesBalance}
use Rattle.emtp_page.specs.Answer.{wanting, Tells}
use Rattle.emtp_page.specs.Given.{named}
use Rattle.emtp_page.specs.declared.answer.Answer.{Answer}
use Rattle.emtp_run.specs.Command.{cases_of, outcome, CreatesInTurn, OpensNothing, OpensOnce, TakesWithin}
use Rattle.emtp_run.specs.Outcome.{HasRoomFor, HasRun, HasStatusCause, IsCalmRun, IsComplete, Leaves, Settles}
use Rattle.emtp_run.specs.Words.{fits}
use Rattle.emtp_run.specs.declared.status.Status.{Status}
use Rattle.emtp_run.specs.declared.status.Status.TheVariants.{Usage}

-- a cabinet of these files before any call: it tells what it holds, and no call of it is told to fail
abbrev pub fresh : List File → ℕ → CabinetState
fresh files room = record {
  nature = record { tells = true; calm = true; room = room; files = file_named files };
  unread = None;
  outputs = no_outputs;
  faults_in = 0;
  faults_out = 0;
  opens = 0;
  creates = 0;
  turns = record { cfg = 0; dat = 0; note = 0; summary = 0 };
}

-- what the clauses of `emtp` say of these words over a cabinet that tells what it holds and never fails by itself
pub record Keeps (words : List (List ℕ)) (status : Status) (old new : CabinetState) : Type 0 where
  pub usage : (status ≡ Usage) ↔ (fits words ≡ None)
  pub unopened : OpensNothing (fits words) status old new
  pub nature : new.nature ≡ old.nature
  pub cause : HasStatusCause status old new
  pub opened : OpensOnce (fits words) status old new
  pub created : CreatesInTurn (fits words) status old new
  pub no_record : Leaves status old new
  pub settles : Settles status (outcome words old.nature.files) old new
  pub taken : TakesWithin (fits words) status old new
  pub residual : HasRun status → All SamplesBalance (cases_of words old.nature.files)
  pub early_end : HasRun status → All EndsWithin (cases_of words old.nature.files)
  pub complete : IfSome (outcome words old.nature.files) (IsComplete status old new)
  pub calm : HasRoomFor (outcome words old.nature.files) old.nature.room → IsCalmRun status old new

-- what the clause of `inspect` says of these words
abbrev pub Shows : List (List ℕ) → Status → CabinetState → CabinetState → Type 0
Shows words status old new = Inspects (past_run words) (asked words) (explained words) status old new

-- what the clause of `assess` says of these words
abbrev pub JudgesRun : List (List ℕ) → Status → CabinetState → CabinetState → Type 0
JudgesRun words status old new = Assesses (question_in words) status old new

-- a call of which this is said was made over files of these names and bytes, with so much room for each output, and left this
pub record Called (says : Status → CabinetState → CabinetState → Type 0) (files : List (List ℕ × List ℕ)) (room : ℕ)
    (status : Status) (outputs : Outputs) : Type 0 where
  pub held : List File
  pub same : named held ≡ files
  pub new : CabinetState
  pub left : new.outputs ≡ outputs
  pub said : says status (fresh held room) new

-- a host is told what such a call came to
pub record Answered (says : Status → CabinetState → CabinetState → Type 0) (files : List (List ℕ × List ℕ)) (room : ℕ)
    (answer : Answer) (cfg dat note summary : List ℕ) : Type 0 where
  pub status : Status
  pub outputs : Outputs
  pub called : Called says files room status outputs
  pub told : Tells status outputs answer cfg dat note summary

-- there was no memory for the words, the files and the room; or a host is told what such a call came to
abbrev pub Answers : (Status → CabinetState → CabinetState → Type 0) → List (List ℕ × List ℕ) → ℕ → Answer
    → List ℕ → List ℕ → List ℕ → List ℕ → Type 0
Answers says files room answer cfg dat note summary =
    (answer ≡ wanting) ⊎ Answered says files room answer cfg dat note summary
