-- A row of a batch is the run of its case.
use Rattle.std.proofs.Common.{◌≡◌, ◌∙◌, ◌+◌, ◌++◌, ap, sym, subst, refl, ℕ, suc, List, [], ◌∷◌, length, map, take, Option, Some, None, option_map, Ok, append_assoc, arith}
use Rattle.std.specs.Prelude.{IsSomeAnd}
use Rattle.emtp_batch.specs.Altered.{altered}
use Rattle.emtp_batch.specs.Report.{report_of, reports_of}
use Rattle.emtp_batch.specs.Summary.{analog_count, batch_text, max_lines, row_line, row_lines}
use Rattle.emtp_batch.specs.Table.{times_table}
use Rattle.emtp_batch.specs.declared.report.RowReport.{RowReport}
use Rattle.emtp_batch.specs.declared.table.Row.{Row}
use Rattle.emtp_card.specs.Lines.{lines_of}
use Rattle.emtp_card.specs.declared.cards.TheConstants.{MAX_BYTES}
use Rattle.emtp_case.specs.Switch.{card_times, with_times}
use Rattle.emtp_case.specs.declared.case.Parts.{Parts}
use Rattle.emtp_deck_laws.specs.OtherTimes.{HasOtherTimes}
use Rattle.emtp_deck_laws.proofs.TimedCases.{other_times}
use Rattle.emtp_machine.specs.History.{history}
use Rattle.emtp_run.specs.Command.{answer_by, batch_outcome, outcome, outcome_for, outcome_of, text_file}
use Rattle.emtp_run.specs.Inputs.{and_content, contents}
use Rattle.emtp_run.specs.Outcome.{Outcome, ran, record_writes, summarised}
use Rattle.emtp_run.specs.Reading.{deck}
use Rattle.emtp_run.specs.Words.{Batch, BatchFiles, Run, RunFiles, fits}
use Rattle.emtp_laws_of_commands.specs.Files.{run_words}
use Rattle.emtp_laws_of_commands.specs.Rows.{HasRowLine, IsRowOfRun, batch_words, report_of_run}
use Rattle.emtp_laws_of_commands.proofs.AcceptedBytes.{lines_accepted}
use Rattle.emtp_laws_of_commands.proofs.AuditedRuns.{run_made}

own_report : (case : Parts) → report_of case ≡ report_of_run case
unfolding report_of
own_report case = refl

-- the lines of rows, one after the other
lines_apart : (number : ℕ) (xs ys : List RowReport) → row_lines number (xs ++ ys) ≡ row_lines number xs ++ row_lines (number + length xs) ys
lines_apart number [] ys = let none : number ≡ number + 0 = omega arith in ap (λ n. row_lines n ys) none
lines_apart number (x ∷ xs) ys =
    let count : (number + 1) + length xs ≡ number + suc (length xs) = omega arith in
    ap (λ t. row_line number x ++ t) (lines_apart (number + 1) xs ys ∙ ap (λ n. row_lines (number + 1) xs ++ row_lines n ys) count) ∙ sym (append_assoc (row_line number x) (row_lines (number + 1) xs) (row_lines (number + suc (length xs)) ys))

mapped_apart : {A B : Type 0} (f : A → B) (xs ys : List A) → map f (xs ++ ys) ≡ map f xs ++ map f ys
mapped_apart f [] ys = refl
mapped_apart f (x ∷ xs) ys = ap (λ t. f x ∷ t) (mapped_apart f xs ys)

mapped_count : {A B : Type 0} (f : A → B) (xs : List A) → length (map f xs) ≡ length xs
mapped_count f [] = refl
mapped_count f (x ∷ xs) = ap suc (mapped_count f xs)

-- the line of a row in the summary
row_in : (front behind : List RowReport) (report : RowReport) (number : ℕ) → length front + 1 ≡ number
    → (a : List ℕ) × (b : List ℕ) × (batch_text (front ++ report ∷ behind) ≡ a ++ row_line number report ++ b)
unfolding batch_text
row_in front behind report number is =
    let all = front ++ report ∷ behind in
    let a = row_lines 1 front in
    let more = row_lines (1 + length front + 1) behind in
    let ends = max_lines all (analog_count all) in
    let count : 1 + length front ≡ number = omega (arith, is) in (
      a,
      more ++ ends,
      ap (λ t. t ++ ends) (lines_apart 1 front (report ∷ behind))
          ∙ append_assoc a (row_line (1 + length front) report ++ more) ends
          ∙ ap (λ t. a ++ t) (append_assoc (row_line (1 + length front) report) more ends)
          ∙ sym (append_assoc a (row_line (1 + length front) report) (more ++ ends))
          ∙ ap (λ n. a ++ row_line n report ++ (more ++ ends)) count,
    )

batch_made : (f : BatchFiles) (files : List ℕ → Option (List ℕ)) (text times : List ℕ) (p : Parts) → fits (batch_words f) ≡ Some (Batch f) → files f.case ≡ Some text → files f.times ≡ Some times → deck (take (MAX_BYTES + 1) text) ≡ Ok p
    → outcome (batch_words f) files ≡ Some (batch_outcome p (times_table (take (MAX_BYTES + 1) times) p))
batch_made f files text times p e there times_there is =
    ap (λ t. outcome_for t files) e
    ∙ ap (λ o. option_map (outcome_of (Batch f)) (option_map (λ texts. [] ++ texts) (and_content o (contents files (text_file f.times ∷ []))))) (ap (option_map (λ bytes. take (MAX_BYTES + 1) bytes)) there)
    ∙ ap (λ o. option_map (outcome_of (Batch f)) (option_map (λ texts. [] ++ texts) (and_content (Some (take (MAX_BYTES + 1) text)) (and_content o (Some []))))) (ap (option_map (λ bytes. take (MAX_BYTES + 1) bytes)) times_there)
    ∙ ap (λ r. Some (answer_by (Batch f) (take (MAX_BYTES + 1) text ∷ take (MAX_BYTES + 1) times ∷ []) r)) is

pub row_is_run : (f : BatchFiles) (files : List ℕ → Option (List ℕ)) (text times other : List ℕ) (p own : Parts) (before after : List Row) (row : Row) → fits (batch_words f) ≡ Some (Batch f) → files f.case ≡ Some text → files f.times ≡ Some times
    → deck (take (MAX_BYTES + 1) text) ≡ Ok p → times_table (take (MAX_BYTES + 1) times) p ≡ Ok (before ++ row ∷ after) → deck other ≡ Ok own → own ≡ altered p row
    → IsSomeAnd (outcome (batch_words f) files) (HasRowLine (length before + 1) (report_of_run own))
row_is_run f files text times other p own before after row e there times_there is rows own_deck same =
    let g : Row → RowReport = λ r. report_of (altered p r) in
    let found = row_in (map g before) (map g after) (g row) (length before + 1) (ap (λ n. n + 1) (mapped_count g before)) in
    let here : g row ≡ report_of_run own = ap report_of (sym same) ∙ own_report own in
    let apart : reports_of p (before ++ row ∷ after) ≡ map g before ++ g row ∷ map g after = mapped_apart g before (row ∷ after) in
    let line : batch_text (reports_of p (before ++ row ∷ after)) ≡ found.0 ++ row_line (length before + 1) (report_of_run own) ++ found.1 =
    ap batch_text apart ∙ found.2 ∙ ap (λ r. found.0 ++ row_line (length before + 1) r ++ found.1) here in
    let came : outcome (batch_words f) files ≡ Some (summarised (batch_text (reports_of p (before ++ row ∷ after)))) = batch_made f files text times p e there times_there is ∙ ap (λ r. Some (batch_outcome p r)) rows in
    subst (λ o. IsSomeAnd o (HasRowLine (length before + 1) (report_of_run own))) (sym came) (record { front = found.0; behind = found.1; is = ap summarised line })

-- beside a line of the batch, what its case comes to by itself
beside_run : (number : ℕ) (f : RunFiles) (own : Parts) (made batched : Option Outcome) → made ≡ Some (ran own (record_writes f own (history own))) → IsSomeAnd batched (HasRowLine number (report_of_run own))
    → IsSomeAnd made (λ run. IsSomeAnd batched (IsRowOfRun number f own run))
beside_run number f own made (Some batch) is row =
    subst (λ o. IsSomeAnd o (λ run. IsSomeAnd (Some batch) (IsRowOfRun number f own run))) (sym is) (record { run = refl; row = row })
beside_run number f own made None is row = absurd row

pub row_is_run_of_cards : (f : BatchFiles) (g : RunFiles) (files : List ℕ → Option (List ℕ)) (text times other : List ℕ) (p own : Parts) (before after : List Row) (row : Row) → fits (batch_words f) ≡ Some (Batch f) → fits (run_words g) ≡ Some (Run g)
    → files f.case ≡ Some text → files f.times ≡ Some times → files g.case ≡ Some other → deck (take (MAX_BYTES + 1) text) ≡ Ok p → deck (take (MAX_BYTES + 1) other) ≡ Ok own
    → HasOtherTimes (lines_of (take (MAX_BYTES + 1) text)) (lines_of (take (MAX_BYTES + 1) other)) → times_table (take (MAX_BYTES + 1) times) p ≡ Ok (before ++ row ∷ after) → row.times ≡ card_times own.switches
    → IsSomeAnd (outcome (run_words g) files) (λ run. IsSomeAnd (outcome (batch_words f) files) (IsRowOfRun (length before + 1) g own run))
row_is_run_of_cards f g files text times other p own before after row e h there times_there other_there is own_is alike rows same =
    let timed = other_times (lines_of (take (MAX_BYTES + 1) text)) (lines_of (take (MAX_BYTES + 1) other)) p own alike (lines_accepted (take (MAX_BYTES + 1) text) p is) (lines_accepted (take (MAX_BYTES + 1) other) own own_is) in
    let altered_is : own ≡ altered p row = timed ∙ ap (λ ts. record p { switches = with_times p.switches ts }) (sym same) in
    beside_run (length before + 1) g own (outcome (run_words g) files) (outcome (batch_words f) files) (run_made g files other own h other_there own_is)
    (row_is_run f files text times (take (MAX_BYTES + 1) other) p own before after row e there times_there is rows own_is altered_is)
