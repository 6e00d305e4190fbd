-- Beside `EndNames`: what values hold for their proofs, and what premises say. No clause of the program reaches it.
use Rattle.std.specs.Prelude.{◌≤◌, ℕ, length}
use Rattle.emtp_case.specs.declared.case.Parts.{Parts}

-- a node of the case
pub record IsNode (case : Parts) (node : ℕ) : Type 0 where
  pub low : 1 ≤ node
  pub high : node ≤ length case.nodes
