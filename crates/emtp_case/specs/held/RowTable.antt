-- The table of the rows of the nodes.
use Rattle.std.specs.Prelude.{◌≡◌, ◌+◌, ◌<◌, ◌≤◌, List, length, slice_index, ℕ}

-- the lists lead from a row to its node and from a node to its row; the place of ground isn't used
pub record AreRows (nodes rows : List ℕ) : Type 0 where
  pub one_more : length rows ≡ length nodes + 1
  pub row_within : (node : ℕ) → 1 ≤ node → node ≤ length nodes → slice_index rows node < length nodes
  pub row_leads : (node : ℕ) → 1 ≤ node → node ≤ length nodes → slice_index nodes (slice_index rows node) ≡ node
  pub node_low : (row : ℕ) → row < length nodes → 1 ≤ slice_index nodes row
  pub node_high : (row : ℕ) → row < length nodes → slice_index nodes row ≤ length nodes
  pub node_leads : (row : ℕ) → row < length nodes → slice_index rows (slice_index nodes row) ≡ row
