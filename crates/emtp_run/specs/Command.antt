-- The table of commands: which files each reads, and what it comes to by what they hold.
use Rattle.std.specs.Prelude.{◌≡◌, ◌⊎◌, ℕ, ◌+◌, length, List, [], ◌∷◌, ◌++◌, Option, Some, None, IsSomeAnd, option_map, Result, Ok, Err}
use Rattle.emtp_audit.specs.Audit.{audit_differs}
use Rattle.emtp_audit.specs.Note.{differs_note, same_text}
use Rattle.emtp_audit.specs.declared.differs.Differs.{Differs as Difference}
use Rattle.emtp_batch.specs.Altered.{altered_cases}
use Rattle.emtp_batch.specs.Report.{reports_of}
use Rattle.emtp_batch.specs.Summary.{batch_text}
use Rattle.emtp_batch.specs.Table.{FaultyItem, times_table}
use Rattle.emtp_batch.specs.declared.table.Row.{Row}
use Rattle.emtp_card.specs.declared.cards.TheConstants.{MAX_BYTES}
use Rattle.emtp_card.specs.declared.reason.Bad.{Bad}
use Rattle.emtp_case.specs.declared.case.Parts.{Parts}
use Rattle.emtp_io.specs.Cabinet.{CabinetState}
use Rattle.emtp_io.specs.Writes.{AreCreated, StopsCreating}
use Rattle.emtp_io.specs.declared.cabinet.Output.{Output}
use Rattle.emtp_io.specs.declared.cabinet.Output.TheVariants.{Cfg, Dat, Note, Summary as TheSummary}
use Rattle.emtp_machine.specs.History.{history, samples}
use Rattle.emtp_phasor_text.specs.Reports.{scan_report, steady_report}
use Rattle.emtp_phasor_text.specs.declared.report.Report.{Report}
use Rattle.emtp_phasor_text.specs.declared.report.Report.TheVariants.{Ended as TellsEnd, Refused as TellsRefusal, Summary as TellsSummary}
use Rattle.emtp_run.specs.Inputs.{Input, contents, opens_after, text_at, OpenedSome, TookOfOne, TookOfLast, UnlessAny}
use Rattle.emtp_run.specs.Outcome.{Outcome, bad_card, bad_row, ended_alone, refusal, summarised, usage, ran, record_writes, says, trial_writes, IsUnopened, TriesNote}
use Rattle.emtp_run.specs.Reading.{deck}
use Rattle.emtp_run.specs.TrialDeck.{trial_cards}
use Rattle.emtp_run.specs.Words.{Task, Audit, Batch, Phasor, Run, Scan, Trial, fits}
use Rattle.emtp_run.specs.declared.reading.TheConstants.{RECORD_BOUND}
use Rattle.emtp_run.specs.declared.status.Status.{Status}
use Rattle.emtp_run.specs.declared.status.Status.TheVariants.{Done, Usage, BadCard, Ended, ReadFault, WriteFault, NoMemory, Refused, Differs, BadRow}

-- ---- what is read

-- a file of cards, or of a table of times; a byte past the limit is enough to refuse it
abbrev pub text_file : List ℕ → Input
text_file name = record { name = name; bound = MAX_BYTES + 1 }

-- a file of a record; a byte past an audit's limit is enough to refuse it
abbrev pub record_file : List ℕ → Input
record_file name = record { name = name; bound = RECORD_BOUND }

-- the files of a command, in the order in which they are read
abbrev pub reads : Task → List Input
reads (Run files) = text_file files.case ∷ []
reads (Trial number) = []
reads (Batch files) = text_file files.case ∷ text_file files.times ∷ []
reads (Audit files) = text_file files.case ∷ record_file files.cfg ∷ record_file files.dat ∷ []
reads (Phasor case) = text_file case ∷ []
reads (Scan s) = text_file s.case ∷ []

-- cards that no file holds
abbrev pub own_texts : Task → List (List ℕ)
own_texts (Run files) = []
own_texts (Trial number) = trial_cards number ∷ []
own_texts (Batch files) = []
own_texts (Audit files) = []
own_texts (Phasor case) = []
own_texts (Scan s) = []

-- all that a command is about, the cards first; nothing where a file isn't there
abbrev pub texts_for : Task → (List ℕ → Option (List ℕ)) → Option (List (List ℕ))
texts_for task files = option_map (λ texts. own_texts task ++ texts) (contents files (reads task))

-- ---- what it comes to

-- of a table of switch times; each row's report is that of its altered case alone
abbrev pub batch_outcome : Parts → Result (List Row) FaultyItem → Outcome
batch_outcome case (Err faulty) = bad_row faulty.line faulty.item
batch_outcome case (Ok rows) = summarised (batch_text (reports_of case rows))

-- of a record with this first difference, or none, beside a case's samples
abbrev pub audit_by : Parts → Option Difference → Outcome
audit_by case None = summarised (same_text (length (samples case (history case))))
audit_by case (Some difference) = refusal Differs (differs_note difference)

abbrev pub audit_outcome : Parts → List ℕ → List ℕ → Outcome
audit_outcome case cfg dat = audit_by case (audit_differs case (samples case (history case)) cfg dat)

-- of what is told of a steady state or a scan
abbrev pub report_outcome : Report → Outcome
report_outcome (TellsSummary text) = summarised text
report_outcome (TellsRefusal text) = refusal Refused text
report_outcome (TellsEnd text) = ended_alone text

-- of a case that is accepted, with the texts of the command
abbrev pub answer : Task → List (List ℕ) → Parts → Outcome
answer (Run files) texts case = ran case (record_writes files case (history case))
answer (Trial number) texts case = ran case (trial_writes number case (history case))
answer (Batch files) texts case = batch_outcome case (times_table (text_at 1 texts) case)
answer (Audit files) texts case = audit_outcome case (text_at 1 texts) (text_at 2 texts)
answer (Phasor name) texts case = report_outcome (steady_report case None)
answer (Scan s) texts case = report_outcome (scan_report case s.first s.last s.by)

abbrev pub answer_by : Task → List (List ℕ) → Result Parts Bad → Outcome
answer_by task texts (Err bad) = bad_card bad
answer_by task texts (Ok case) = answer task texts case

-- of these texts; a card that is refused comes before all else
abbrev pub outcome_of : Task → List (List ℕ) → Outcome
outcome_of task texts = answer_by task texts (deck (text_at 0 texts))

abbrev pub outcome_for : Option Task → (List ℕ → Option (List ℕ)) → Option Outcome
outcome_for None files = Some usage
outcome_for (Some task) files = option_map (outcome_of task) (texts_for task files)

-- what a call comes to over these files; nothing where one that is read isn't among them
abbrev pub outcome : List (List ℕ) → (List ℕ → Option (List ℕ)) → Option Outcome
outcome words files = outcome_for (fits words) files

-- ---- which cases are run

abbrev pub altered_in : Parts → Result (List Row) FaultyItem → List Parts
altered_in case (Err faulty) = []
altered_in case (Ok rows) = altered_cases case rows

-- for a case that is accepted
abbrev pub runs : Task → List (List ℕ) → Parts → List Parts
runs (Run files) texts case = case ∷ []
runs (Trial number) texts case = case ∷ []
runs (Batch files) texts case = altered_in case (times_table (text_at 1 texts) case)
runs (Audit files) texts case = case ∷ []
runs (Phasor name) texts case = []
runs (Scan s) texts case = []

abbrev pub runs_by : Task → List (List ℕ) → Result Parts Bad → List Parts
runs_by task texts (Err bad) = []
runs_by task texts (Ok case) = runs task texts case

abbrev pub runs_of : Task → List (List ℕ) → List Parts
runs_of task texts = runs_by task texts (deck (text_at 0 texts))

abbrev pub cases_in : Task → Option (List (List ℕ)) → List Parts
cases_in task None = []
cases_in task (Some texts) = runs_of task texts

abbrev pub cases_for : Option Task → (List ℕ → Option (List ℕ)) → List Parts
cases_for None files = []
cases_for (Some task) files = cases_in task (texts_for task files)

-- the cases that are run: none where the words don't fit, a file isn't among these, or a card or a row is refused
abbrev pub cases_of : List (List ℕ) → (List ℕ → Option (List ℕ)) → List Parts
cases_of words files = cases_for (fits words) files

-- ---- which files are opened

-- a command that reads no file opens none
abbrev pub OpensNothing : Option Task → Status → CabinetState → CabinetState → Type 0
OpensNothing None status old new = IsUnopened status old new
OpensNothing (Some task) status old new = UnlessAny (reads task) (IsUnopened status old new)

-- what is said of a call that came past its reading, and of one that didn't
abbrev pub by_reading : Type 0 → Type 0 → Status → Type 0
by_reading past within = says (record { made = past; noted = past; unread = within; cut = past; wanting = within })

-- How much of these files was taken, by what is unread before and now: after a call that came past its reading the last of
-- them is open, and else one of them, or none was opened.
abbrev pub TookSoFar : Status → (List ℕ → Option (List ℕ)) → List Input → Option (List ℕ) → Option (List ℕ) → Type 0
TookSoFar status files inputs old new = by_reading (TookOfLast files inputs old new) (TookOfOne files inputs old new) status

abbrev pub TakesWithin : Option Task → Status → CabinetState → CabinetState → Type 0
TakesWithin None status old new = new.unread ≡ old.unread
TakesWithin (Some task) status old new = TookSoFar status old.nature.files (reads task) old.unread new.unread

-- How often `open` was called, over any cabinet: after a call that came past its reading once for each of these files, in their
-- order, and else once for each as far as it came.
abbrev pub OpenedSoFar : Status → List Input → ℕ → ℕ → Type 0
OpenedSoFar status inputs before now = by_reading (now ≡ opens_after inputs before) (OpenedSome inputs before now) status

abbrev pub OpensOnce : Option Task → Status → CabinetState → CabinetState → Type 0
OpensOnce None status old new = new.opens ≡ old.opens
OpensOnce (Some task) status old new = OpenedSoFar status (reads task) old.opens new.opens

-- ---- which outputs are created

-- those of a command that comes to its end, in the order in which they are made
abbrev pub outputs_of : Task → List Output
outputs_of (Run files) = Cfg ∷ Dat ∷ Note ∷ []
outputs_of (Trial number) = TheSummary ∷ []
outputs_of (Batch files) = TheSummary ∷ []
outputs_of (Audit files) = TheSummary ∷ []
outputs_of (Phasor case) = TheSummary ∷ []
outputs_of (Scan s) = TheSummary ∷ []

-- those of a command that ends early; some never do
abbrev pub early_outputs_of : Task → Option (List Output)
early_outputs_of (Run files) = Some (Cfg ∷ Dat ∷ Note ∷ [])
early_outputs_of (Trial number) = Some (TheSummary ∷ [])
early_outputs_of (Batch files) = None
early_outputs_of (Audit files) = None
early_outputs_of (Phasor case) = Some (Note ∷ [])
early_outputs_of (Scan s) = None

-- what a status says of the calls of `create`, over any cabinet, whether it tells what its outputs hold or not
abbrev pub CreatesBy : Task → Status → CabinetState → CabinetState → Type 0
CreatesBy task Done old new = AreCreated (outputs_of task) old.creates new
CreatesBy task Usage old new = TriesNote old new
CreatesBy task BadCard old new = TriesNote old new
CreatesBy task Ended old new = IsSomeAnd (early_outputs_of task) (λ outputs. AreCreated outputs old.creates new)
CreatesBy task ReadFault old new = new.creates ≡ old.creates
CreatesBy task WriteFault old new =
    StopsCreating (outputs_of task) old.creates new
    ⊎ IsSomeAnd (early_outputs_of task) (λ outputs. StopsCreating outputs old.creates new)
CreatesBy task NoMemory old new = new.creates ≡ old.creates
CreatesBy task Refused old new = TriesNote old new
CreatesBy task Differs old new = TriesNote old new
CreatesBy task BadRow old new = TriesNote old new

-- words that don't fit leave their note
abbrev pub CreatesInTurn : Option Task → Status → CabinetState → CabinetState → Type 0
CreatesInTurn None status old new = TriesNote old new
CreatesInTurn (Some task) status old new = CreatesBy task status old new
