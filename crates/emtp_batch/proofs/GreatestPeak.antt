-- The greatest peak of an analog channel is that of a row, and no row exceeds it.
use Rattle.std.proofs.Common.{◌≡◌, ◌∙◌, ◌+◌, ◌<◌, ◌≤ℤ◌, ◌⊎◌, ℕ, zero, suc, ℤ, pos, Bool, true, false, List, [], ◌∷◌, Option, None, Some, All, ap, arith, fold, inl, inr, length, map, refl, subst, sym}
use Rattle.std.proofs.lemmas.Bool.Decides.{Decides-int_eq}
use Rattle.std.proofs.lemmas.Int.{fold-int_max_bounds, fold-int_max_reached, ints}
use Rattle.std.proofs.lemmas.List.{get_or-map, length-map}
use Rattle.std.proofs.lemmas.List.Folds.{fold-map}
use Rattle.std.proofs.lemmas.List.Quantifiers.{position-Some}
use Rattle.std.proofs.lemmas.Option.{slice_get-get_or}
use Rattle.std.specs.Int.{int_max}
use Rattle.std.specs.Ordering.{int_eq}
use Rattle.std.specs.Prelude.{Contains, if◌then◌else◌, option_map, position, slice_get, slice_index_or, unwrap_or}
use Rattle.emtp_case.proofs.Places.{position-None}
use Rattle.emtp_case.specs.Channel.{is_status}
use Rattle.emtp_case.specs.declared.case.Parts.{Parts}
use Rattle.emtp_case.specs.declared.channel.Channel.{Channel}
use Rattle.emtp_batch.specs.Altered.{altered}
use Rattle.emtp_batch.specs.Laws.{IsGreatestPeak}
use Rattle.emtp_batch.specs.Report.{peak_of_channel, peaks_from, report_of, reports_of}
use Rattle.emtp_batch.specs.Summary.{first_row_with, greatest_peak, peak_at}
use Rattle.emtp_batch.specs.declared.report.RowReport.{RowReport}
use Rattle.emtp_batch.specs.declared.table.Row.{Row}

-- ---- no peak is below 0

peaks_low : (rows : List (List ℤ)) (place : ℕ) (channels : List Channel) (k : ℕ) → pos 0 ≤ℤ slice_index_or (peaks_from rows place channels) k (pos 0)
peaks_low rows place [] zero = omega (arith, ints)
peaks_low rows place [] (suc k) = omega (arith, ints)
peaks_low rows place (channel ∷ more) k = by (is_status channel) k (peaks_low rows (place + 1) more)
  where
    by : (b : Bool) (k : ℕ) → ((k : ℕ) → pos 0 ≤ℤ slice_index_or (peaks_from rows (place + 1) more) k (pos 0))
        → pos 0 ≤ℤ slice_index_or (if b then peaks_from rows (place + 1) more else peak_of_channel rows place ∷ peaks_from rows (place + 1) more) k (pos 0)
    by true k later = later k
    by false zero later = omega (arith, ints)
    by false (suc k) later = later k

report_low : (case : Parts) (channel : ℕ) → pos 0 ≤ℤ peak_at channel (report_of case)
unfolding report_of
report_low case channel = peaks_low _ 0 case.channels channel

-- ---- one channel in all rows

is_greatest : (channel : ℕ) (reports : List RowReport) → greatest_peak channel reports ≡ fold int_max (pos 0) (map (peak_at channel) reports)
is_greatest channel reports = sym (fold-map int_max (peak_at channel) (pos 0) reports)

none_above : (channel : ℕ) (reports : List RowReport) → All (λ (report : RowReport). peak_at channel report ≤ℤ greatest_peak channel reports) reports
none_above channel reports = λ k d within.
    let there : k < length (map (peak_at channel) reports) = omega (arith, within, length-map reports (peak_at channel)) in
    let bound = (fold-int_max_bounds (pos 0) (map (peak_at channel) reports) (greatest_peak channel reports) (is_greatest channel reports)).1 k (peak_at channel d) there in
    subst (λ p. p ≤ℤ greatest_peak channel reports) (get_or-map (peak_at channel) reports k d (peak_at channel d) within) bound

-- where there is a row, one has it
reached : (channel : ℕ) (report : RowReport) (more : List RowReport) → pos 0 ≤ℤ peak_at channel report
    → (k : ℕ) × (k < length (report ∷ more)) × (peak_at channel (slice_index_or (report ∷ more) k report) ≡ greatest_peak channel (report ∷ more))
reached channel report more low = by (fold-int_max_reached (pos 0) (map (peak_at channel) reports) peak (is_greatest channel reports))
  where
    reports : List RowReport
    reports = report ∷ more

    peak : ℤ
    peak = greatest_peak channel reports

    by : (peak ≡ pos 0) ⊎ Contains (map (peak_at channel) reports) peak → (k : ℕ) × (k < length reports) × (peak_at channel (slice_index_or reports k report) ≡ peak)
    by (inl none) = (0, omega arith, omega (arith, ints, none, low, none_above channel reports 0 report (omega arith)))
    by (inr there) =
        let within : there.0 < length reports = omega (arith, there.1, length-map reports (peak_at channel)) in
        (there.0, within, sym (get_or-map (peak_at channel) reports there.0 report peak within) ∙ there.2)

greatest_there : (channel : ℕ) (report : RowReport) (more : List RowReport) → pos 0 ≤ℤ peak_at channel report
    → IsGreatestPeak channel (report ∷ more) (greatest_peak channel (report ∷ more)) (first_row_with channel (greatest_peak channel (report ∷ more)) (report ∷ more))
greatest_there channel report more low = by (position has_peak reports) refl
  where
    reports : List RowReport
    reports = report ∷ more

    peak : ℤ
    peak = greatest_peak channel reports

    has_peak : RowReport → Bool
    has_peak r = int_eq (peak_at channel r) peak

    by : (place : Option ℕ) → position has_peak reports ≡ place → IsGreatestPeak channel reports peak (unwrap_or place 0 + 1)
    by None none =
        let there = reached channel report more low in
        let passes : has_peak (slice_index_or reports there.0 report) ≡ true = (Decides-int_eq _ _).1 there.2 in
        let fails : has_peak (slice_index_or reports there.0 report) ≡ false = position-None has_peak reports none there.0 report there.1 in
        absurd (cc)
    by (Some place) found =
        let first = position-Some has_peak reports place report found in
        record {
          none_above = none_above channel reports;
          some = omega arith;
          within = omega (arith, first.0);
          has = λ k same.
              let at : k ≡ place = omega (arith, same) in
              ap (λ k. option_map (peak_at channel) (slice_get reports k)) at ∙ ap (option_map (peak_at channel)) (slice_get-get_or reports place report first.0)
              ∙ ap Some ((Decides-int_eq _ _).0 first.1);
          first = λ k before is.
              let within : k < length reports = omega (arith, before, first.0) in
              let read : Some (peak_at channel (slice_index_or reports k report)) ≡ Some peak = sym (ap (option_map (peak_at channel)) (slice_get-get_or reports k report within)) ∙ is in
              let same : peak_at channel (slice_index_or reports k report) ≡ peak = cc in
              let passes : has_peak (slice_index_or reports k report) ≡ true = (Decides-int_eq _ _).1 same in
              let fails : has_peak (slice_index_or reports k report) ≡ false = first.2 k (omega (arith, before)) in
              absurd (cc);
        }

pub greatest_of_rows : (case : Parts) (rows : List Row) (channel : ℕ) → 0 < length rows
    → IsGreatestPeak channel (reports_of case rows) (greatest_peak channel (reports_of case rows)) (first_row_with channel (greatest_peak channel (reports_of case rows)) (reports_of case rows))
greatest_of_rows case [] channel some = absurd (omega arith)
greatest_of_rows case (row ∷ more) channel some = greatest_there channel (report_of (altered case row)) (reports_of case more) (report_low (altered case row) channel)
