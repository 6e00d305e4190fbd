-- Which outputs a command creates, from what it comes to.
use Rattle.std.proofs.Common.{◌≡◌, ◌⊎◌, inl, inr, ap, refl, subst, ℕ, List, [], ◌∷◌, Option, Some, None, Result, Ok, Err}
use Rattle.std.specs.Prelude.{ℤ, IsSomeAnd}
use Rattle.emtp_audit.specs.Audit.{audit_differs}
use Rattle.emtp_audit.specs.declared.differs.Differs.{Differs as Difference}
use Rattle.emtp_batch.specs.Table.{FaultyItem, times_table}
use Rattle.emtp_batch.specs.declared.table.Row.{Row}
use Rattle.emtp_card.specs.declared.reason.Bad.{Bad}
use Rattle.emtp_case.specs.declared.case.Parts.{Parts}
use Rattle.emtp_io.specs.Cabinet.{CabinetState}
use Rattle.emtp_io.specs.Writes.{AreCreated, StopsCreating}
use Rattle.emtp_io.specs.held.Writes.{outs}
use Rattle.emtp_io.specs.declared.cabinet.Output.{Output}
use Rattle.emtp_io.specs.declared.cabinet.Output.TheVariants.{Note, Summary}
use Rattle.emtp_machine.specs.History.{history, samples}
use Rattle.emtp_phasor_text.specs.Reports.{scan_report, steady_report, told_probe}
use Rattle.emtp_phasor_text.specs.declared.report.Report.{Report}
use Rattle.emtp_phasor_text.specs.declared.report.Report.TheVariants.{Ended as TellsEnd, Refused as TellsRefusal, Summary as TellsSummary}
use Rattle.emtp_run.specs.Command.{answer, answer_by, audit_by, batch_outcome, early_outputs_of, outcome_of, outputs_of, report_outcome, CreatesBy}
use Rattle.emtp_run.specs.Inputs.{text_at}
use Rattle.emtp_run.specs.Outcome.{IsFinished}
use Rattle.emtp_run.specs.held.Outcome.{CreatesOf}
use Rattle.emtp_run.specs.Reading.{deck}
use Rattle.emtp_run.specs.Words.{Task, Audit, Batch, Phasor, Run, Scan, Trial}
use Rattle.emtp_run.specs.declared.status.Status.{Status}
use Rattle.emtp_run.specs.declared.status.Status.TheVariants.{Done, Usage, BadCard, Ended, ReadFault, WriteFault, NoMemory, Refused, Differs, BadRow}

-- ---- at an end

batch_done : (case : Parts) (table : Result (List Row) FaultyItem) → (batch_outcome case table).status ≡ Done → outs (batch_outcome case table).writes ≡ Summary ∷ []
batch_done case (Err faulty) is = absurd (cc)
batch_done case (Ok rows) is = refl

audit_done : (case : Parts) (difference : Option Difference) → (audit_by case difference).status ≡ Done → outs (audit_by case difference).writes ≡ Summary ∷ []
audit_done case None is = refl
audit_done case (Some difference) is = absurd (cc)

told_done : (report : Report) → (report_outcome report).status ≡ Done → outs (report_outcome report).writes ≡ Summary ∷ []
told_done (TellsSummary text) is = refl
told_done (TellsRefusal text) is = absurd (cc)
told_done (TellsEnd text) is = absurd (cc)

answer_done : (task : Task) (texts : List (List ℕ)) (case : Parts) → (answer task texts case).status ≡ Done → outs (answer task texts case).writes ≡ outputs_of task
answer_done (Run files) texts case is = refl
answer_done (Trial number) texts case is = refl
answer_done (Batch files) texts case is = batch_done case (times_table (text_at 1 texts) case) is
answer_done (Audit files) texts case is = audit_done case (audit_differs case (samples case (history case)) (text_at 1 texts) (text_at 2 texts)) is
answer_done (Phasor name) texts case is = told_done (steady_report case None) is
answer_done (Scan s) texts case is = told_done (scan_report case s.first s.last s.by) is

done : (task : Task) (texts : List (List ℕ)) (read : Result Parts Bad) → (answer_by task texts read).status ≡ Done → outs (answer_by task texts read).writes ≡ outputs_of task
done task texts (Err bad) is = absurd (cc)
done task texts (Ok case) is = answer_done task texts case is

-- ---- at an early end

batch_ends : (case : Parts) (table : Result (List Row) FaultyItem) → (batch_outcome case table).status ≡ Ended → ⊥
batch_ends case (Err faulty) is = cc
batch_ends case (Ok rows) is = cc

audit_ends : (case : Parts) (difference : Option Difference) → (audit_by case difference).status ≡ Ended → ⊥
audit_ends case None is = cc
audit_ends case (Some difference) is = cc

told_early : (report : Report) → (report_outcome report).status ≡ Ended → outs (report_outcome report).writes ≡ Note ∷ []
told_early (TellsSummary text) is = absurd (cc)
told_early (TellsRefusal text) is = absurd (cc)
told_early (TellsEnd text) is = refl

probe_ends : (case : Parts) (first last by : ℤ) (probe : _) → (report_outcome (told_probe case first last by probe)).status ≡ Ended → ⊥
probe_ends case first last by (Ok probe) is = cc
probe_ends case first last by (Err refusal) is = cc

scan_ends : (case : Parts) (first last by : ℤ) → (report_outcome (scan_report case first last by)).status ≡ Ended → ⊥
unfolding scan_report
scan_ends case first last by is = probe_ends case first last by _ is

answer_early : (task : Task) (texts : List (List ℕ)) (case : Parts) → (answer task texts case).status ≡ Ended → Some (outs (answer task texts case).writes) ≡ early_outputs_of task
answer_early (Run files) texts case is = refl
answer_early (Trial number) texts case is = refl
answer_early (Batch files) texts case is = absurd (batch_ends case (times_table (text_at 1 texts) case) is)
answer_early (Audit files) texts case is = absurd (audit_ends case (audit_differs case (samples case (history case)) (text_at 1 texts) (text_at 2 texts)) is)
answer_early (Phasor name) texts case is = ap (λ (outputs : List Output). Some outputs) (told_early (steady_report case None) is)
answer_early (Scan s) texts case is = absurd (scan_ends case s.first s.last s.by is)

early : (task : Task) (texts : List (List ℕ)) (read : Result Parts Bad) → (answer_by task texts read).status ≡ Ended → Some (outs (answer_by task texts read).writes) ≡ early_outputs_of task
early task texts (Err bad) is = absurd (cc)
early task texts (Ok case) is = answer_early task texts case is

-- ---- what the status of a command says of the calls of `create`

finished : (status : Status) → IsFinished status → (status ≡ Done) ⊎ (status ≡ Ended)
finished Done is = inl refl
finished Usage is = elim is [ ]
finished BadCard is = elim is [ ]
finished Ended is = inr refl
finished ReadFault is = elim is [ ]
finished WriteFault is = elim is [ ]
finished NoMemory is = elim is [ ]
finished Refused is = elim is [ ]
finished Differs is = elim is [ ]
finished BadRow is = elim is [ ]

pub creates-by : (task : Task) (status : Status) (texts : List (List ℕ)) (old new : CabinetState) → CreatesOf status (outcome_of task texts) old new → CreatesBy task status old new
creates-by task Done texts old new creates = subst (λ (outputs : List Output). AreCreated outputs old.creates new) (done task texts (deck (text_at 0 texts)) creates.0) creates.1
creates-by task Usage texts old new creates = creates
creates-by task BadCard texts old new creates = creates
creates-by task Ended texts old new creates =
    subst (λ (o : Option (List Output)). IsSomeAnd o (λ outputs. AreCreated outputs old.creates new)) (early task texts (deck (text_at 0 texts)) creates.0) creates.1
creates-by task ReadFault texts old new creates = creates
creates-by task WriteFault texts old new creates = by (finished (outcome_of task texts).status creates.0)
  where
    by : ((outcome_of task texts).status ≡ Done) ⊎ ((outcome_of task texts).status ≡ Ended) → CreatesBy task WriteFault old new
    by (inl is) = inl (subst (λ (outputs : List Output). StopsCreating outputs old.creates new) (done task texts (deck (text_at 0 texts)) is) creates.1)
    by (inr is) = inr (subst (λ (o : Option (List Output)). IsSomeAnd o (λ outputs. StopsCreating outputs old.creates new)) (early task texts (deck (text_at 0 texts)) is) creates.1)
creates-by task NoMemory texts old new creates = creates
creates-by task Refused texts old new creates = creates
creates-by task Differs texts old new creates = creates
creates-by task BadRow texts old new creates = creates
