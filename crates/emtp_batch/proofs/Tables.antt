-- The rows of a table, one line after another.
use Rattle.std.proofs.Common.{◌≡◌, ◌∙◌, ap, sym, ℕ, ◌+◌, List, [], ◌∷◌, ◌++◌, true, false, length, length-append, Result, Ok, refl}
use Rattle.emtp_case.specs.declared.switch.Times.{Times}
use Rattle.emtp_card.specs.Lines.{lines_of}
use Rattle.emtp_batch.specs.Row.{cons_result}
use Rattle.emtp_batch.specs.Table.{FaultyItem, is_skipped, row_on_line, rows_from}
use Rattle.emtp_batch.specs.declared.table.Row.{Row}
use Rattle.emtp_batch.proofs.Rows.{append_result, append_result-one}

pub skip_step : (front : List Row) (cards : List Times) (line count : ℕ) (text : List ℕ) (more : List (List ℕ)) → is_skipped text ≡ true
    → append_result front (rows_from cards (line + 1) count more) ≡ append_result front (rows_from cards line count (text ∷ more))
skip_step front cards line count text more h = rw h refl

pub row_step : (front : List Row) (cards : List Times) (line count : ℕ) (text : List ℕ) (more : List (List ℕ)) (row : Row) → is_skipped text ≡ false → row_on_line cards line count text ≡ Ok row
    → append_result (front ++ row ∷ []) (rows_from cards (line + 1) (count + 1) more) ≡ append_result front (rows_from cards line count (text ∷ more))
row_step front cards line count text more row h is =
    append_result-one front row (rows_from cards (line + 1) (count + 1) more)
    ∙ ap (λ r. append_result front (cons_result r (rows_from cards (line + 1) (count + 1) more))) (sym is)
    ∙ rw h refl

-- what a turn of the loop keeps
pub skipped : (front : List Row) (cards : List Times) (line : ℕ) (text rest tail : List ℕ) (whole : Result (List Row) FaultyItem) → lines_of rest ≡ text ∷ lines_of tail → is_skipped text ≡ true
    → append_result front (rows_from cards line (length front) (lines_of rest)) ≡ whole → append_result front (rows_from cards (line + 1) (length front) (lines_of tail)) ≡ whole
skipped front cards line text rest tail whole lines skip was =
    skip_step front cards line (length front) text (lines_of tail) skip ∙ ap (λ ls. append_result front (rows_from cards line (length front) ls)) (sym lines) ∙ was

pub added : (front new : List Row) (cards : List Times) (line : ℕ) (text rest tail : List ℕ) (row : Row) (whole : Result (List Row) FaultyItem) → lines_of rest ≡ text ∷ lines_of tail → is_skipped text ≡ false
    → row_on_line cards line (length front) text ≡ Ok row → new ≡ front ++ row ∷ []
    → append_result front (rows_from cards line (length front) (lines_of rest)) ≡ whole → append_result new (rows_from cards (line + 1) (length new) (lines_of tail)) ≡ whole
added front new cards line text rest tail row whole lines kept is new_is was =
    let count : length new ≡ length front + 1 = ap length new_is ∙ length-append front (row ∷ []) in
    ap (λ n. append_result new (rows_from cards (line + 1) n (lines_of tail))) count
    ∙ ap (λ rs. append_result rs (rows_from cards (line + 1) (length front + 1) (lines_of tail))) new_is
    ∙ row_step front cards line (length front) text (lines_of tail) row kept is
    ∙ ap (λ ls. append_result front (rows_from cards line (length front) ls)) (sym lines) ∙ was
