use Rattle.std.specs.Prelude.{◌≡◌, ◌≤◌, count_by}
use Rattle.std.specs.List.{range_with_len}
use Rattle.emtp_case.specs.RowOrder.{has_source}
use Rattle.emtp_case.proofs.row_order.fixed_of.Given as goal

abbrev pub invariant-loop-at : goal.invariant-loop-at
invariant-loop-at l = record {
  counted : l.count ≡ count_by (has_source l.parts) (range_with_len 1 l.at);
  few : l.count ≤ l.at;
}
