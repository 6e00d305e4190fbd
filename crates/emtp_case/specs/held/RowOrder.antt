-- Beside `RowOrder`: what values hold for their proofs, and what premises say. No clause of the program reaches it.
use Rattle.emtp_case.specs.declared.case.Parts.{Parts}
use Rattle.std.specs.List.{range_with_len}
use Rattle.std.specs.List.Sorted.{IsPermutation, IsSortedByKey}
use Rattle.std.specs.Prelude.{◌≡◌, ◌<◌, length, nat_lt, slice_index, ℕ}
use Rattle.emtp_case.specs.RowOrder.{has_source, key_of, key_cmp, Rows}

-- the rows list each node once, in rising order of their keys, and those of voltage sources come first
pub record IsRowOrder (p : Parts) (r : Rows) : Type 0 where
  pub each_once : IsPermutation (range_with_len 1 (length p.nodes)) r.nodes
  pub rising : IsSortedByKey (key_of p) key_cmp r.nodes
  pub sources_first : (row : ℕ) → row < length r.nodes → has_source p (slice_index r.nodes row) ≡ nat_lt row r.fixed
