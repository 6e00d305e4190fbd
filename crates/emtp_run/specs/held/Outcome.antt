-- Beside `Outcome`: what values hold for their proofs, and what premises say. No clause of the program reaches it.
use Rattle.std.specs.Prelude.{◌≡◌, ◌≢◌, ◌+◌, List, length, IsTrue, Option, Some}
use Rattle.emtp_case.specs.declared.case.Parts.{Parts}
use Rattle.emtp_io.specs.Cabinet.{CabinetState}
use Rattle.emtp_io.specs.Writes.{Written, AreCreated, StopsCreating}
use Rattle.emtp_io.specs.held.Writes.{outs}
use Rattle.emtp_machine.specs.History.{History, history, redone as redone_by, samples as samples_of}
use Rattle.emtp_run.specs.held.Words.{files_of}
use Rattle.emtp_run.specs.declared.outputs.Product.{Product}
use Rattle.emtp_run.specs.declared.outputs.Product.TheVariants.{Record as OfRecord, Trial as OfTrial}
use Rattle.emtp_run.specs.declared.outputs.Results.{Results}
use Rattle.emtp_run.specs.declared.status.Status.{Status}
use Rattle.emtp_run.specs.declared.status.Status.TheVariants.{ReadFault, Usage}
use Rattle.emtp_run.specs.Outcome.{Outcome, record_writes, says, trial_writes, Settles, HasStatusCause, Leaves, IsCalmRun, IsFinished, HasRoomFor, TriesNote}

abbrev pub writes_of : Product → Parts → History → List Written
writes_of (OfRecord words) case h = record_writes (files_of words) case h
writes_of (OfTrial number) case h = trial_writes number case h

-- what a run came to is that of the case's history; rest is no step
pub record AreResultsOf (case : Parts) (results : Results) : Type 0 where
  pub channels : results.samples.now.channels ≡ length case.channels
  pub samples : results.samples.now.rows ≡ samples_of case (history case)
  pub steps : results.steps + 1 ≡ length (history case).records
  pub redone : results.redone ≡ redone_by case (history case)
  pub end : results.end.now ≡ (history case).end

-- a status whose note is all that is made
abbrev pub LeavesNote : Status → Type 0
LeavesNote = says (record { made = ⊥; noted = Unit {0}; unread = ⊥; cut = ⊥; wanting = ⊥ })

-- how a call with this outcome ends, whatever it answers
pub record Ends (status : Status) (o : Option Outcome) (old new : CabinetState) : Type 0 where
  pub nature : new.nature ≡ old.nature
  pub cause : HasStatusCause status old new
  pub no_record : Leaves status old new
  pub outcome : IsTrue old.nature.tells → Settles status o old new
  pub calm : IsTrue old.nature.tells → IsTrue old.nature.calm → HasRoomFor o old.nature.room → IsCalmRun status old new

-- what a status says, over any cabinet, of the calls of `create` that are to make this outcome
abbrev pub CreatesOf : Status → Outcome → CabinetState → CabinetState → Type 0
CreatesOf status o old new =
    let all = (o.status ≡ status) × AreCreated (outs o.writes) old.creates new in
    let some = IsFinished o.status × StopsCreating (outs o.writes) old.creates new in
    let none = new.creates ≡ old.creates in
    says (record { made = all; noted = TriesNote old new; unread = none; cut = some; wanting = none }) status

-- a call that ends so once the words fit and all files were read: it reads no more
pub record EndsAfterReading (status : Status) (o : Outcome) (old new : CabinetState) : Type 0 where
  pub usage : status ≢ Usage
  pub read : status ≢ ReadFault
  pub unread : new.unread ≡ old.unread
  pub opens : new.opens ≡ old.opens
  pub created : CreatesOf status o old new
  pub ends : Ends status (Some o) old new
