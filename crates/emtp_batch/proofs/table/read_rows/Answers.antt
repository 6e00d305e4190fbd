use Rattle.std.proofs.Common.{◌≡◌, ◌∙◌, sym, ap, arith, length, ◌+◌, ◌≤◌, ◌∷◌, ◌++◌, [], Ok, All, subst}
use Rattle.emtp_card.specs.declared.cards.TheConstants.{MAX_BYTES}
use Rattle.emtp_batch.proofs.Rows.{append_result}
use Rattle.std.proofs.lemmas.List.Elements.{All-append, All-cons, All-nil}
use Rattle.std.proofs.lemmas.Grind.{common_steps}
use Rattle.emtp_card.specs.Lines.{lines_of}
use Rattle.emtp_batch.specs.held.Row.{IsRowFor}
use Rattle.emtp_batch.specs.Table.{row_on_line, rows_from}
use Rattle.emtp_batch.proofs.Tables.{skipped, added}
use Rattle.emtp_batch.proofs.table.read_rows.Goals as goal
use Rattle.emtp_batch.proofs.table.read_rows.Goals.{then-not-is_skipped+in_ok-row+in_ok-push, else-not-is_skipped}

pub loop-text-preserved : goal.loop-text-preserved
loop-text-preserved c =
    let old = c.loop-text.rows.items in
    let new = c.if-not-is_skipped.rows.items in
    let cards = c.args.cards.now in
    let line = c.loop-text.line in
    let whole = rows_from cards 1 0 (lines_of c.args.bytes.now) in
    let lines = c.in-Some.ensures.lines in
    let was = c.loop-text.invariant in
    let place : line + 1 + length (lines_of c.in-Some.tail.now) ≡ length (lines_of c.args.bytes.now) + 1 = omega (arith, was.place, ap length lines) in
    let short : line + 1 + length c.in-Some.tail.now ≤ MAX_BYTES + 1 = omega (arith, was.short, c.in-Some.ensures.short) in
    elim c.if-not-is_skipped.branch [
      | then-not-is_skipped+in_ok-row+in_ok-push w ↦
          let row = w.in_ok-row.row in
          let new_is : new ≡ old ++ row ∷ [] = ap (λ v. v.items) w.rows-is ∙ (w.in_ok-push.ensures {u = tt}).items in
          let count : w.len.result ≡ length old = grind (arith, common_steps) in
          let is : row_on_line cards line (length old) c.in-Some.text.now ≡ Ok row = ap (λ n. row_on_line cards line n c.in-Some.text.now) (sym count) ∙ (w.in_ok-row.ensures {u = tt}).ok in
          record {
            all = added old new cards line c.in-Some.text.now c.loop-text.rest.now c.in-Some.tail.now row whole lines (sym c.is_skipped.ensures ∙ w.if-not-is_skipped.true) is new_is was.all;
            place = place;
            short = short;
            fit = subst (All (IsRowFor (length cards))) (sym new_is) (All-append (IsRowFor (length cards)) old (row ∷ []) was.fit (All-cons (IsRowFor (length cards)) row [] (w.in_ok-row.ensures {u = tt}).fits (All-nil (IsRowFor (length cards)))));
          }
      | else-not-is_skipped w ↦
          let same : new ≡ old = ap (λ v. v.items) w.rows-is in
          record {
            all = subst (λ rs. append_result rs (rows_from cards (line + 1) (length rs) (lines_of c.in-Some.tail.now)) ≡ whole) (sym same)
                (skipped old cards line c.in-Some.text.now c.loop-text.rest.now c.in-Some.tail.now whole lines (sym c.is_skipped.ensures ∙ w.if-not-is_skipped.false) was.all);
            place = place;
            short = short;
            fit = subst (All (IsRowFor (length cards))) (sym same) was.fit;
          }
    ]
