-- The names of nodes.
use Rattle.emtp_case.specs.declared.case.Parts.{Parts}
use Rattle.std.specs.Prelude.{◌+◌, List, Option, option_map, position, ℕ}
use Rattle.std.specs.Str.{bytes_eq}

-- the number of the node with a name, from 1
abbrev pub node_of : Parts → List ℕ → Option ℕ
node_of p name = option_map (λ at. at + 1) (position (λ n. bytes_eq n name) p.nodes)
