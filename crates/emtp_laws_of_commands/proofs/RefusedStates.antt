-- Cabinets before and after a call of `run`, from which the refusals of the clauses of `emtp` go: each changes one thing.
use Rattle.std.specs.Prelude.{ℕ, List, [], ◌∷◌, Option, Some, None, true}
use Rattle.emtp_io.specs.Cabinet.{CabinetState, CreatedOutput, Outputs}
use Rattle.emtp_io.specs.Writes.{Written}
use Rattle.emtp_io.specs.declared.cabinet.Output.TheVariants.{Cfg, Dat, Note}
use Rattle.emtp_io.specs.declared.turns.Turns.{Turns}
use Rattle.emtp_run.specs.Outcome.{Outcome}
use Rattle.emtp_run.specs.Words.{Task, Run}
use Rattle.emtp_run.specs.declared.status.Status.{Status}
use Rattle.emtp_run.specs.declared.status.Status.TheVariants.{Done, Ended, BadCard}

-- ---- what the call comes to; names and bytes are short ones, since no relation looks into them

abbrev pub cfg_name : List ℕ
cfg_name = 1 ∷ []

abbrev pub dat_name : List ℕ
dat_name = 2 ∷ []

abbrev pub case_name : List ℕ
case_name = 3 ∷ []

abbrev pub cfg_bytes : List ℕ
cfg_bytes = 11 ∷ 12 ∷ []

abbrev pub dat_bytes : List ℕ
dat_bytes = 21 ∷ 22 ∷ []

abbrev pub note_bytes : List ℕ
note_bytes = 31 ∷ 32 ∷ []

abbrev pub writes : List Written
writes =
    record { out = Cfg; name = cfg_name; bytes = cfg_bytes }
    ∷ record { out = Dat; name = dat_name; bytes = dat_bytes }
    ∷ record { out = Note; name = []; bytes = note_bytes }
    ∷ []

abbrev pub outcome_with : Status → Option Outcome
outcome_with status = Some (record { status = status; writes = writes })

abbrev pub done : Option Outcome
done = outcome_with Done

abbrev pub ended : Option Outcome
ended = outcome_with Ended

-- a card is refused, and its note is all that is left
abbrev pub bad_card : Option Outcome
bad_card = Some (record { status = BadCard; writes = record { out = Note; name = []; bytes = note_bytes } ∷ [] })

abbrev pub task : Task
task = Run (record { case = case_name; cfg = cfg_name; dat = dat_name })

-- ---- before the call: an earlier one has left its summary, and failed once at a file and once at an output

abbrev pub holds : List ℕ → List ℕ → Option CreatedOutput
holds name bytes = Some (record { name = name; bytes = bytes })

abbrev pub old_outputs : Outputs
old_outputs = record { cfg = None; dat = None; note = None; summary = holds [] (41 ∷ []) }

-- each file has the bytes 51 and 52
abbrev pub files : List ℕ → Option (List ℕ)
files name = Some (51 ∷ 52 ∷ [])

abbrev pub old : CabinetState
old = record {
  nature = record { tells = true; calm = true; room = 100; files = files };
  unread = None;
  outputs = old_outputs;
  faults_in = 1;
  faults_out = 1;
  opens = 1;
  creates = 2;
  turns = record { cfg = 0; dat = 0; note = 0; summary = 1 };
}

-- ---- after the call, with nothing wrong

abbrev pub new_outputs : Outputs
new_outputs = record old_outputs {
  cfg = holds cfg_name cfg_bytes;
  dat = holds dat_name dat_bytes;
  note = holds [] note_bytes;
}

abbrev pub new : CabinetState
new = record old {
  unread = Some [];
  outputs = new_outputs;
  opens = 2;
  creates = 5;
  turns = record { cfg = 3; dat = 4; note = 5; summary = 1 };
}

-- these outputs after the call
abbrev pub left : Outputs → CabinetState
left outputs = record new { outputs = outputs }

-- and one more failure at an output counted
abbrev pub left_failing : Outputs → CabinetState
left_failing outputs = record new { outputs = outputs; faults_out = 2 }

-- so many failures at files and at outputs counted after the call
abbrev pub counted : ℕ → ℕ → CabinetState
counted at_files at_outputs = record new { faults_in = at_files; faults_out = at_outputs }

-- so many calls of `create` after the call, and these turns
abbrev pub created : ℕ → Turns → CabinetState
created calls turns = record new { creates = calls; turns = turns }
