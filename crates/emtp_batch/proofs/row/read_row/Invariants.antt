use Rattle.std.proofs.Common.{◌≡◌, ◌+◌, ◌*◌, length, drop, All}
use Rattle.emtp_batch.specs.Items.{items_of}
use Rattle.emtp_batch.specs.Row.{times_from}
use Rattle.emtp_batch.specs.held.Row.{AreTimesInRange}
use Rattle.emtp_batch.proofs.Rows.{append_result}
use Rattle.emtp_batch.proofs.row.read_row.Given as goal

-- the times so far and those of what is left are all times
abbrev pub invariant-loop-card : goal.invariant-loop-card
invariant-loop-card l = record {
  all : append_result l.times.items (times_from l.at (drop l.card-index l.cards) (items_of l.rest)) ≡ times_from 1 l.cards (items_of l.text);
  place : l.at ≡ 2 * l.card-index + 1;
  count : length l.times.items ≡ l.card-index;
  in_range : All AreTimesInRange l.times.items;
}
