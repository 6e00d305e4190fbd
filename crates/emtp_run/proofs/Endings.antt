-- How a call ends that makes a note and nothing else, or stops at an output, and that nothing else can happen.
use Rattle.std.proofs.Common.{◌≡◌, ◌≢◌, ℕ, List, [], ◌∷◌, inl, inr, sym, refl, Some, None, Option, Result, Ok, Err, IsTrue, IsOk, IfSome, subst}
use Rattle.emtp_io.specs.Cabinet.{CabinetState}
use Rattle.emtp_io.specs.Writes.{Written}
use Rattle.emtp_io.specs.held.Writes.{Makes}
use Rattle.emtp_io.specs.declared.cabinet.Output.TheVariants.{Cfg, Dat}
use Rattle.emtp_run.specs.Outcome.{Outcome, note, refusal, says, status_of, IsComplete, IsFinished, IsWholeOrCut, KeepsRecord, Says, TriesNote}
use Rattle.emtp_run.specs.held.Outcome.{Ends, EndsAfterReading, LeavesNote}
use Rattle.emtp_run.specs.declared.status.Status.{Status}
use Rattle.emtp_run.specs.declared.status.Status.TheVariants.{Done, Usage, BadCard, Ended, ReadFault, WriteFault, NoMemory, Refused, Differs, BadRow}

whole_or_cut : {T E : Type 0} {old new : CabinetState} {writes : List Written} (result : Result T E)
    → Makes old new writes result → IsTrue old.nature.tells → IsWholeOrCut writes old new
whole_or_cut (Ok value) makes tells = inl (makes.ok tells)
whole_or_cut (Err fault) makes tells = inr (makes.cause.failed, makes.err tells)

keeps_record : {T E : Type 0} {old new : CabinetState} {text : List ℕ} (result : Result T E)
    → Makes old new (note text ∷ []) result → KeepsRecord old new
keeps_record result makes = (makes.others Cfg ((λ same. cc), tt), makes.others Dat ((λ same. cc), tt))

no_fault : {T E : Type 0} {old new : CabinetState} {writes : List Written} (result : Result T E)
    → Makes old new writes result → IsOk result → new.faults_out ≡ old.faults_out
no_fault (Ok value) makes ok = makes.cause.ok
no_fault (Err fault) makes ok = cc

-- one call of `create` was made, for the note
pub note-tried : {T E : Type 0} {old new : CabinetState} {text : List ℕ} (result : Result T E)
    → Makes old new (note text ∷ []) result → TriesNote old new
note-tried (Ok value) makes = inl makes.created
note-tried (Err fault) makes = inr (makes.cause.failed, makes.stopped)

-- ---- a run whose outputs couldn't all be made

run_finished : {X : Type 0} (end : Option X) → IsFinished (status_of end)
run_finished None = tt
run_finished (Some end) = tt

pub run-stopped : {T E X : Type 0} {old new : CabinetState} {writes : List Written} {fault : E} (end : Option X)
    → Makes {T = T} {E = E} old new writes (Err fault) → EndsAfterReading WriteFault (record { status = status_of end; writes = writes }) old new
run-stopped end makes = record {
  usage = λ same. cc;
  read = λ same. cc;
  unread = makes.unread;
  opens = makes.opens;
  created = (run_finished end, makes.stopped);
  ends = record {
    nature = makes.nature;
    cause = (makes.faults_in, makes.cause.failed);
    no_record = tt;
    outcome = λ tells. (run_finished end, makes.err tells);
    calm = λ tells calm fit. let ok = makes.calm tells calm fit in absurd (cc);
  };
}

-- ---- what the table of statuses says of a refusal

of_note : (of : Says) (status : Status) → LeavesNote status → of.noted → says of status
of_note of Done is fact = elim is [ ]
of_note of Usage is fact = fact
of_note of BadCard is fact = fact
of_note of Ended is fact = elim is [ ]
of_note of ReadFault is fact = elim is [ ]
of_note of WriteFault is fact = elim is [ ]
of_note of NoMemory is fact = elim is [ ]
of_note of Refused is fact = fact
of_note of Differs is fact = fact
of_note of BadRow is fact = fact

other_than : (status other : Status) → LeavesNote status → (LeavesNote other → ⊥) → status ≢ other
other_than status other is bars = λ same. bars (subst LeavesNote same is)

-- the note of a refusal was made, or it is cut short
pub note-ends : {T E : Type 0} {old new : CabinetState} {text : List ℕ} (status : Status) (result : Result T E) → LeavesNote status
    → Makes old new (note text ∷ []) result → Ends status (Some (refusal status text)) old new
note-ends {old = old} {new = new} {text = text} status result is makes = record {
  nature = makes.nature;
  cause = of_note _ status is (makes.faults_in, makes.cause.later);
  no_record = of_note _ status is (keeps_record result makes);
  outcome = λ tells. of_note _ status is (refl, whole_or_cut result makes tells);
  calm = λ tells calm fit. record {
    inputs = makes.faults_in;
    outputs = no_fault result makes (makes.calm tells calm fit);
    read = other_than status ReadFault is (λ left. left);
    write = other_than status WriteFault is (λ left. left);
  };
}

-- ---- nothing else can happen

noted : (old new : CabinetState) (status : Status) (o : Outcome) → o.status ≡ status → IsWholeOrCut o.writes old new → IsComplete status old new o
noted old new status o is (inl whole) = inr (inr (inl (sym is, whole)))
noted old new status o is (inr cut) = inr (inl cut.0)

complete_by : (old new : CabinetState) (status : Status) (o : Outcome) → Ends status (Some o) old new → IsTrue old.nature.tells → IsComplete status old new o
complete_by old new Done o ends tells = let is = ends.outcome tells in inr (inr (inl (sym is.0, is.1)))
complete_by old new Usage o ends tells = let is = ends.outcome tells in noted old new Usage o is.0 is.1
complete_by old new BadCard o ends tells = let is = ends.outcome tells in noted old new BadCard o is.0 is.1
complete_by old new Ended o ends tells = let is = ends.outcome tells in inr (inr (inl (sym is.0, is.1)))
complete_by old new ReadFault o ends tells = inl ends.cause.0
complete_by old new WriteFault o ends tells = inr (inl ends.cause.1)
complete_by old new NoMemory o ends tells = inr (inr (inr (refl, ends.outcome tells)))
complete_by old new Refused o ends tells = let is = ends.outcome tells in noted old new Refused o is.0 is.1
complete_by old new Differs o ends tells = let is = ends.outcome tells in noted old new Differs o is.0 is.1
complete_by old new BadRow o ends tells = let is = ends.outcome tells in noted old new BadRow o is.0 is.1

pub ends-complete : (old new : CabinetState) (status : Status) (o : Option Outcome) → Ends status o old new → IsTrue old.nature.tells → IfSome o (IsComplete status old new)
ends-complete old new status None ends tells = tt
ends-complete old new status (Some o) ends tells = complete_by old new status o ends tells
