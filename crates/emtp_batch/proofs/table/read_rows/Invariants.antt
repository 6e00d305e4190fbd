use Rattle.std.proofs.Common.{◌≡◌, ◌≤◌, ◌+◌, length, All}
use Rattle.emtp_card.specs.Lines.{lines_of}
use Rattle.emtp_card.specs.declared.cards.TheConstants.{MAX_BYTES}
use Rattle.emtp_batch.specs.held.Row.{IsRowFor}
use Rattle.emtp_batch.specs.Table.{rows_from}
use Rattle.emtp_batch.proofs.Rows.{append_result}
use Rattle.emtp_batch.proofs.table.read_rows.Given as goal

-- the rows so far and those of what is left are all rows
abbrev pub invariant-loop-text : goal.invariant-loop-text
invariant-loop-text l = record {
  all : append_result l.rows.items (rows_from l.cards l.line (length l.rows.items) (lines_of l.rest)) ≡ rows_from l.cards 1 0 (lines_of l.bytes);
  place : l.line + length (lines_of l.rest) ≡ length (lines_of l.bytes) + 1;
  short : l.line + length l.rest ≤ MAX_BYTES + 1;
  fit : All (IsRowFor (length l.cards)) l.rows.items;
}

abbrev pub decreases-loop-text : goal.decreases-loop-text
decreases-loop-text l = length l.rest
