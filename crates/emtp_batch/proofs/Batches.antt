-- The reports of a table, one row after another.
use Rattle.std.proofs.Common.{◌≡◌, ◌∙◌, ap, sym, subst, ℕ, ◌+◌, ◌<◌, List, [], ◌∷◌, ◌++◌, length, take, All, Result, Ok, Err, add-one, arith}
use Rattle.std.proofs.Math.Seq.{take-suc}
use Rattle.std.proofs.lemmas.List.{map-append}
use Rattle.std.proofs.lemmas.List.Elements.{All-append, All-cons, All-nil, All-take}
use Rattle.std.specs.Prelude.{slice_index_or}
use Rattle.std.specs.Result.{OnErr}
use Rattle.emtp_case.specs.Switch.{with_times}
use Rattle.emtp_case.specs.declared.case.Parts.{Parts}
use Rattle.emtp_case.specs.declared.switch.Times.{Times}
use Rattle.emtp_batch.specs.Altered.{altered, altered_cases}
use Rattle.emtp_batch.specs.held.Altered.{IsAfterSome, after_rows, time_switches}
use Rattle.emtp_batch.specs.Report.{report_of, reports_of}
use Rattle.emtp_batch.specs.held.Row.{IsRowFor}
use Rattle.emtp_batch.specs.declared.report.RowReport.{RowReport}
use Rattle.emtp_batch.specs.declared.table.Row.{Row}
use Rattle.emtp_batch.proofs.AlteredCases.{altered_after, count_after, one_row_more}

front_more : (rows : List Row) (at : ℕ) (d : Row) → at < length rows → take (at + 1) rows ≡ take at rows ++ slice_index_or rows at d ∷ []
front_more rows at d within = rw add-one (take-suc rows at d within)

-- the row at a place fits the case as the rows before leave it
pub fits_there : (case now : Parts) (rows : List Row) (at : ℕ) (d : Row) → All (IsRowFor (time_switches case)) rows → now ≡ after_rows case (take at rows) → at < length rows
    → IsRowFor (time_switches now) (slice_index_or rows at d)
fits_there case now rows at d fit now_is within =
    let count : time_switches now ≡ time_switches case = ap time_switches now_is ∙ count_after case (take at rows) (All-take (IsRowFor (time_switches case)) at rows fit) in
    subst (λ n. IsRowFor n (slice_index_or rows at d)) (sym count) (fit at d within)

-- what the case becomes is the case under the row alone, and the case as one row more leaves it
pub altered_there : (case now new : Parts) (rows : List Row) (at : ℕ) (d : Row) → All (IsRowFor (time_switches case)) rows → now ≡ after_rows case (take at rows) → at < length rows
    → new ≡ altered now (slice_index_or rows at d) → new ≡ altered case (slice_index_or rows at d)
altered_there case now new rows at d fit now_is within new_is =
    new_is ∙ ap (λ p. altered p (slice_index_or rows at d)) now_is
    ∙ altered_after case (take at rows) (slice_index_or rows at d) (All-take (IsRowFor (time_switches case)) at rows fit) (fit at d within)

pub after_one_more : (case new : Parts) (rows : List Row) (at : ℕ) (d : Row) → at < length rows → new ≡ altered case (slice_index_or rows at d) → new ≡ after_rows case (take (at + 1) rows)
after_one_more case new rows at d within new_is =
    new_is ∙ sym (one_row_more case (take at rows) (slice_index_or rows at d)) ∙ ap (after_rows case) (sym (front_more rows at d within))

pub one_report_more : (case : Parts) (rows : List Row) (at : ℕ) (d : Row) (old new : List RowReport) (report : RowReport) → at < length rows → old ≡ reports_of case (take at rows)
    → report ≡ report_of (altered case (slice_index_or rows at d)) → new ≡ old ++ report ∷ [] → new ≡ reports_of case (take (at + 1) rows)
one_report_more case rows at d old new report within was is new_is =
    new_is ∙ ap (λ rs. rs ++ report ∷ []) was ∙ ap (λ r. reports_of case (take at rows) ++ r ∷ []) is
    ∙ sym (ap (reports_of case) (front_more rows at d within) ∙ map-append (λ row. report_of (altered case row)) (take at rows) (slice_index_or rows at d ∷ []))

-- what holds of the cases under the rows so far and of the next one
pub one_case_more : (P : Parts → Type 0) (case : Parts) (rows : List Row) (at : ℕ) (d : Row) → at < length rows → All P (altered_cases case (take at rows)) → P (altered case (slice_index_or rows at d)) → All P (altered_cases case (take (at + 1) rows))
one_case_more P case rows at d within before here =
    subst (All P) (sym (ap (altered_cases case) (front_more rows at d within) ∙ map-append (altered case) (take at rows) (slice_index_or rows at d ∷ [])))
    (All-append P (altered_cases case (take at rows)) (altered case (slice_index_or rows at d) ∷ []) before (All-cons P (altered case (slice_index_or rows at d)) [] here (All-nil P)))

-- the same for the times that are set
pub set_there : (case now new : Parts) (rows : List Row) (at : ℕ) (d : Row) (times : List Times) → All (IsRowFor (time_switches case)) rows → now ≡ after_rows case (take at rows) → at < length rows
    → times ≡ (slice_index_or rows at d).times → new ≡ record now { switches = with_times now.switches times } → new ≡ altered case (slice_index_or rows at d)
set_there case now new rows at d times fit now_is within same new_is =
    altered_there case now new rows at d fit now_is within
    (new_is ∙ ap (λ ts. let made : Parts = record now { switches = with_times now.switches ts } in made) same)

-- some rows were taken, whatever stopped the others
pub after_some : {A E : Type 0} (result : Result A E) (case new : Parts) (rows : List Row) (at : ℕ) (d : Row) → at < length rows → new ≡ altered case (slice_index_or rows at d) → OnErr result (IsAfterSome case rows new)
after_some (Ok x) case new rows at d within is = tt
after_some (Err e) case new rows at d within is = record { count = at + 1; few = omega (arith, within); is = after_one_more case new rows at d within is }
