use Rattle.std.proofs.Common.{◌≡◌, ℕ, [], length, slice_index_or}
use Rattle.emtp_rows.proofs.terms.no_terms.Given as goal

abbrev pub invariant-loop : goal.invariant-loop
invariant-loop l = record {
  made : length l.rows.items ≡ l.counter;
  none : (i : ℕ) → slice_index_or l.rows.items i [] ≡ [];
}
