-- How many records a place may name.
use Rattle.emtp_case.specs.declared.case.Parts.{Parts}
use Rattle.std.specs.Prelude.{◌≤◌, length, ℕ}

-- how many nodes, branches, three-phase lines, switches and variables there are
pub record Sizes : Type 0 where
  pub nodes : ℕ
  pub branches : ℕ
  pub trios : ℕ
  pub switches : ℕ
  pub vars : ℕ

abbrev pub sizes_of : Parts → Sizes
sizes_of p = record {
  nodes = length p.nodes;
  branches = length p.branches;
  trios = length p.trios;
  switches = length p.switches;
  vars = length p.vars;
}

-- so many nodes, the six variables that every case has, and nothing else
abbrev pub sizes_with : ℕ → Sizes
sizes_with nodes = record { nodes = nodes; branches = 0; trios = 0; switches = 0; vars = 6 }

-- no size of the second is below that of the first
pub record Grows (m n : Sizes) : Type 0 where
  pub nodes : m.nodes ≤ n.nodes
  pub branches : m.branches ≤ n.branches
  pub trios : m.trios ≤ n.trios
  pub switches : m.switches ≤ n.switches
  pub vars : m.vars ≤ n.vars
