use Rattle.std.specs.Prelude.{◌≡◌, map}
use Rattle.std.specs.List.{range_with_len}
use Rattle.emtp_case.specs.RowOrder.{key_of}
use Rattle.emtp_case.proofs.row_order.keys_of.Given as goal

abbrev pub invariant-loop-at : goal.invariant-loop-at
invariant-loop-at l = l.keys.items ≡ map (key_of l.parts) (range_with_len 1 l.at)
