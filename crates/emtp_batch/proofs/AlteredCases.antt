-- A case that gets the times of one row after another has those of the last.
use Rattle.std.proofs.Common.{◌≡◌, ap, List, [], ◌∷◌, ◌++◌, All, refl}
use Rattle.std.proofs.lemmas.List.Elements.{All-head, All-tail}
use Rattle.emtp_case.proofs.SwitchTimes.{count_stays, times_twice}
use Rattle.emtp_case.specs.declared.case.Parts.{Parts}
use Rattle.emtp_batch.specs.Altered.{altered}
use Rattle.emtp_batch.specs.held.Altered.{after_rows, time_switches}
use Rattle.emtp_batch.specs.held.Row.{IsRowFor}
use Rattle.emtp_batch.specs.declared.table.Row.{Row}

pub one_row_more : (case : Parts) (rows : List Row) (row : Row) → after_rows case (rows ++ row ∷ []) ≡ altered case row
one_row_more case [] row = refl
one_row_more case (first ∷ []) row = refl
one_row_more case (first ∷ next ∷ more) row = one_row_more case (next ∷ more) row

pub count_after : (case : Parts) (rows : List Row) → All (IsRowFor (time_switches case)) rows → time_switches (after_rows case rows) ≡ time_switches case
count_after case [] h = refl
count_after case (row ∷ []) h = count_stays case.switches row.times (All-head (IsRowFor (time_switches case)) row [] h).count_is
count_after case (row ∷ next ∷ more) h = count_after case (next ∷ more) (All-tail (IsRowFor (time_switches case)) row (next ∷ more) h)

-- the times of the rows before don't matter
pub altered_after : (case : Parts) (rows : List Row) (row : Row) → All (IsRowFor (time_switches case)) rows → IsRowFor (time_switches case) row → altered (after_rows case rows) row ≡ altered case row
altered_after case [] row h fits = refl
altered_after case (first ∷ []) row h fits =
    ap (λ ss. let made : Parts = record case { switches = ss } in made) (times_twice case.switches first.times row.times (All-head (IsRowFor (time_switches case)) first [] h).count_is fits.count_is)
altered_after case (first ∷ next ∷ more) row h fits = altered_after case (next ∷ more) row (All-tail (IsRowFor (time_switches case)) first (next ∷ more) h) fits
