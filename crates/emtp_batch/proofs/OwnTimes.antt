-- A row with the times of the cards changes nothing, and each row stands alone.
use Rattle.std.proofs.Common.{◌≡◌, ◌∙◌, ◌+◌, ℕ, List, [], ◌∷◌, ◌++◌, Ok, Some, ap, length, refl}
use Rattle.std.specs.Prelude.{slice_get}
use Rattle.emtp_case.proofs.SwitchTimes.{own_times_stay}
use Rattle.emtp_case.specs.Switch.{card_times, with_times}
use Rattle.emtp_case.specs.declared.case.Parts.{Parts}
use Rattle.emtp_case.specs.declared.switch.Times.{Times}
use Rattle.emtp_batch.specs.Altered.{altered}
use Rattle.emtp_batch.specs.Items.{items_of}
use Rattle.emtp_batch.specs.Laws.{stars}
use Rattle.emtp_batch.specs.Report.{report_of, reports_of}
use Rattle.emtp_batch.specs.Row.{cons_result, row_times, times_from}
use Rattle.emtp_batch.specs.declared.table.Row.{Row}

stars_from : (at : ℕ) (cards : List Times) → times_from at cards (stars cards) ≡ Ok cards
stars_from at [] = refl
stars_from at (card ∷ cards) = ap (λ others. cons_result (Ok card) others) (stars_from (at + 2) cards)

pub stars_keep : (cards : List Times) (line : List ℕ) → items_of line ≡ stars cards → row_times cards line ≡ Ok cards
unfolding row_times
stars_keep cards line is = ap (times_from 1 cards) is ∙ stars_from 1 cards

pub own_times_give : (case : Parts) (row : Row) → row.times ≡ card_times case.switches → report_of (altered case row) ≡ report_of case
own_times_give case row is = ap (λ ss. let made : Parts = record case { switches = ss } in report_of made) (ap (with_times case.switches) is ∙ own_times_stay case.switches)

pub report_there : (case : Parts) (before after : List Row) (row : Row) → slice_get (reports_of case (before ++ row ∷ after)) (length before) ≡ Some (report_of (altered case row))
report_there case [] after row = refl
report_there case (first ∷ before) after row = report_there case before after row
