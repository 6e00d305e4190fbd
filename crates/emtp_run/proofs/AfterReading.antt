-- What is promised of a whole call, from how the reading of its files ended and what came after it.
use Rattle.std.proofs.Common.{◌≡◌, ◌≢◌, ◌∙◌, ap, sym, subst, refl, ℕ, ◌+◌, ◌<◌, arith, length, List, [], ◌∷◌, ◌++◌, Option, Some, None, Ok, Err, IsTrue}
use Rattle.std.specs.Prelude.{option_map}
use Rattle.emtp_io.specs.Cabinet.{CabinetState, Outputs, Nature}
use Rattle.emtp_io.specs.declared.turns.Turns.{Turns}
use Rattle.emtp_io.specs.declared.whole.ReadEnd.TheVariants.{Failed, NoMemory as Wanting}
use Rattle.emtp_run.proofs.Endings.{ends-complete}
use Rattle.emtp_run.proofs.Contents.{contents-there, one_of, opened_all}
use Rattle.emtp_run.proofs.Creating.{creates-by}
use Rattle.emtp_run.specs.Command.{by_reading, cases_in, outcome_for, outcome_of, own_texts, reads, runs_of, texts_for}
use Rattle.emtp_run.specs.held.Command.{IsAnswered, HoldsOfRuns}
use Rattle.emtp_run.specs.Inputs.{Input, TookOfLast, UnlessAny, contents}
use Rattle.emtp_run.specs.held.Inputs.{FilesAreThere, IsUntouched, ReadsInputs}
use Rattle.emtp_run.specs.Outcome.{HasRoomFor, HasRun, HasStatusCause, Outcome}
use Rattle.emtp_run.specs.held.Outcome.{CreatesOf, Ends, EndsAfterReading}
use Rattle.emtp_run.specs.Words.{Task, Audit, Batch, Phasor, Run, Scan, Trial}
use Rattle.emtp_run.specs.declared.status.Status.{Status}
use Rattle.emtp_run.specs.declared.status.Status.TheVariants.{Done, Usage, BadCard, Ended, ReadFault, WriteFault, NoMemory, Refused, Differs, BadRow}

-- ---- the tables of statuses over a cabinet that differs in what is unread and in the calls of `open` alone

abbrev read_on : CabinetState → Option (List ℕ) → ℕ → CabinetState
read_on old unread opens = record old { unread = unread; opens = opens }

read_on-is : {A : Type 0} (inputs : List Input) (old mid : CabinetState) (x : A) → ReadsInputs {A = A} inputs old mid (Ok x) → mid ≡ read_on old mid.unread mid.opens
read_on-is inputs old mid x read =
    ap (λ (n : Nature). let made : CabinetState = record mid { nature = n } in made) read.nature
    ∙ ap (λ (o : Outputs). let made : CabinetState = record mid { nature = old.nature; outputs = o } in made) read.outputs
    ∙ ap (λ (n : ℕ). let made : CabinetState = record mid { nature = old.nature; outputs = old.outputs; faults_in = n } in made) read.count
    ∙ ap (λ (n : ℕ). let made : CabinetState = record mid { nature = old.nature; outputs = old.outputs; faults_in = old.faults_in; faults_out = n } in made) read.faults_out
    ∙ ap (λ (n : ℕ). let made : CabinetState = record mid { nature = old.nature; outputs = old.outputs; faults_in = old.faults_in; faults_out = old.faults_out; creates = n } in made) read.creates
    ∙ ap (λ (t : Turns). let made : CabinetState = record mid { nature = old.nature; outputs = old.outputs; faults_in = old.faults_in; faults_out = old.faults_out; creates = old.creates; turns = t } in made) read.turns

-- what a status says doesn't go by these two
creates_after : {A : Type 0} (inputs : List Input) (s : Status) (o : Outcome) (old mid new : CabinetState) (x : A) → ReadsInputs {A = A} inputs old mid (Ok x) → CreatesOf s o mid new → CreatesOf s o old new
creates_after inputs s o old mid new x read creates =
    subst (λ (c : CabinetState). CreatesOf s o c new) (read_on-is inputs old mid x read) creates

ends_from : (s : Status) (o asked : Option Outcome) (old new : CabinetState) (u : Option (List ℕ)) (n : ℕ) → (IsTrue old.nature.tells → asked ≡ o) → Ends s o (read_on old u n) new → Ends s asked old new
ends_from s o asked old new u n same ends = record {
  nature = ends.nature;
  cause = ends.cause;
  no_record = ends.no_record;
  outcome = λ tells. rw (same tells) (ends.outcome tells);
  calm = λ tells calm fit.
      let run = ends.calm tells calm (rw (same tells) at fit) in
      record { inputs = run.inputs; outputs = run.outputs; read = run.read; write = run.write };
}

ends_after : {A : Type 0} (inputs : List Input) (s : Status) (o asked : Option Outcome) (old mid new : CabinetState) (x : A) → ReadsInputs {A = A} inputs old mid (Ok x) → (IsTrue old.nature.tells → asked ≡ o) → Ends s o mid new → Ends s asked old new
ends_after inputs s o asked old mid new x read same ends =
    ends_from s o asked old new mid.unread mid.opens same (subst (λ (c : CabinetState). Ends s o c new) (read_on-is inputs old mid x read) ends)

-- a command has cards: of its own, or of the first file that it reads
pub some_text : (task : Task) → 0 < length (own_texts task) + length (reads task)
some_text (Run files) = omega arith
some_text (Trial number) = omega arith
some_text (Batch files) = omega arith
some_text (Audit files) = omega arith
some_text (Phasor case) = omega arith
some_text (Scan s) = omega arith

-- ---- which files were opened

unless-map : (inputs : List Input) {A B : Type 0} → (A → B) → UnlessAny inputs A → UnlessAny inputs B
unless-map [] f fact = f fact
unless-map (input ∷ more) f fact = tt

inputs_from : (s : Status) (old new : CabinetState) → s ≢ ReadFault → HasStatusCause s old new → new.faults_in ≡ old.faults_in
inputs_from Done old new read h = h.0
inputs_from Usage old new read h = h.0
inputs_from BadCard old new read h = h.0
inputs_from Ended old new read h = h.0
inputs_from ReadFault old new read h = absurd (read refl)
inputs_from WriteFault old new read h = h.0
inputs_from NoMemory old new read h = h.0
inputs_from Refused old new read h = h.0
inputs_from Differs old new read h = h.0
inputs_from BadRow old new read h = h.0

-- what holds past the reading, whatever is answered then
past : {after within : Type 0} (s : Status) → (after → within) → after → by_reading after within s
past Done so fact = fact
past Usage so fact = fact
past BadCard so fact = fact
past Ended so fact = fact
past ReadFault so fact = so fact
past WriteFault so fact = fact
past NoMemory so fact = so fact
past Refused so fact = fact
past Differs so fact = fact
past BadRow so fact = fact

-- ---- the three ways in which a reading ends

-- all files were read, and then it ended so
pub answered : {A : Type 0} (task : Task) (s : Status) (texts : List (List ℕ)) (old mid new : CabinetState) (x : A)
    → ReadsInputs {A = A} (reads task) old mid (Ok x) → UnlessAny (reads task) (IsUntouched {A = A} old mid (Ok x))
    → (IsTrue old.nature.tells → texts_for task old.nature.files ≡ Some texts)
    → (HasRun s → HoldsOfRuns (runs_of task texts)) → EndsAfterReading s (outcome_of task texts) mid new
    → IsAnswered (Some task) s old new
answered {A = A} task s texts old mid new x read untouched told hold after = record {
  unopened = unless-map (reads task) (λ (none : IsUntouched {A = A} old mid (Ok x)). record {
    unread = after.unread ∙ none.unread;
    inputs = inputs_from s mid new after.read after.ends.cause ∙ none.inputs;
    read = after.read;
  }) untouched;
  opened = past s (opened_all (reads task) old.opens new.opens) (after.opens ∙ read.opens);
  created = creates-by task s texts old new (creates_after (reads task) s (outcome_of task texts) old mid new x read after.created);
  taken = λ tells. past s (one_of old.nature.files (reads task) old.unread new.unread)
      (subst (λ (o : Option (List ℕ)). TookOfLast old.nature.files (reads task) old.unread o) (sym after.unread) (read.last tells));
  runs = λ tells ran. subst (λ (o : Option (List (List ℕ))). HoldsOfRuns (cases_in task o)) (sym (told tells)) (hold ran);
  ends = ends;
  complete = ends-complete old new s (outcome_for (Some task) old.nature.files) ends;
}
  where
    ends : Ends s (outcome_for (Some task) old.nature.files) old new
    ends = ends_after (reads task) s (Some (outcome_of task texts)) (outcome_for (Some task) old.nature.files) old mid new x read
        (λ tells. ap (option_map (outcome_of task)) (told tells)) after.ends

-- an outcome is known only where the files are there
room_there : (task : Task) (files : List ℕ → Option (List ℕ)) (room : ℕ) → HasRoomFor (outcome_for (Some task) files) room → FilesAreThere files (reads task)
room_there task files room fit = by (contents files (reads task)) refl
  where
    by : (o : Option (List (List ℕ))) → contents files (reads task) ≡ o → FilesAreThere files (reads task)
    by None is = elim (subst (λ (o : Option (List (List ℕ))). HasRoomFor (option_map (outcome_of task) (option_map (λ texts. own_texts task ++ texts) o)) room) is fit) [ ]
    by (Some texts) is = contents-there files (reads task) texts is

-- a file couldn't be opened or read
pub failed : {A : Type 0} (task : Task) (old new : CabinetState)
    → ReadsInputs {A = A} (reads task) old new (Err Failed) → UnlessAny (reads task) (IsUntouched {A = A} old new (Err Failed))
    → IsAnswered (Some task) ReadFault old new
failed {A = A} task old new read untouched = record {
  unopened = unless-map (reads task) (λ (none : IsUntouched {A = A} old new (Err Failed)). absurd (none.read refl)) untouched;
  opened = read.opened;
  created = read.creates;
  taken = read.taken;
  runs = λ tells ran. elim ran [ ];
  ends = ends;
  complete = ends-complete old new ReadFault (outcome_for (Some task) old.nature.files) ends;
}
  where
    ends : Ends ReadFault (outcome_for (Some task) old.nature.files) old new
    ends = record {
      nature = read.nature;
      cause = (read.failed refl, read.faults_out);
      no_record = read.outputs;
      outcome = λ tells. read.outputs;
      calm = λ tells calm fit. absurd (read.calm tells calm (room_there task old.nature.files old.nature.room fit) refl);
    }

-- memory was wanting for what a file holds
pub wanting : {A : Type 0} (task : Task) (old new : CabinetState)
    → ReadsInputs {A = A} (reads task) old new (Err Wanting) → UnlessAny (reads task) (IsUntouched {A = A} old new (Err Wanting))
    → IsAnswered (Some task) NoMemory old new
wanting {A = A} task old new read untouched = record {
  unopened = unless-map (reads task) (λ (none : IsUntouched {A = A} old new (Err Wanting)). record { unread = none.unread; inputs = none.inputs; read = λ same. cc }) untouched;
  opened = read.opened;
  created = read.creates;
  taken = read.taken;
  runs = λ tells ran. elim ran [ ];
  ends = ends;
  complete = ends-complete old new NoMemory (outcome_for (Some task) old.nature.files) ends;
}
  where
    ends : Ends NoMemory (outcome_for (Some task) old.nature.files) old new
    ends = record {
      nature = read.nature;
      cause = (read.memory refl, read.faults_out);
      no_record = read.outputs;
      outcome = λ tells. read.outputs;
      calm = λ tells calm fit. record { inputs = read.memory refl; outputs = read.faults_out; read = λ same. cc; write = λ same. cc };
    }
