-- Which sources hold the voltage of a node.
use Rattle.emtp_case.specs.declared.source.Source.{Source}
use Rattle.std.specs.Prelude.{◌==◌, ◌&&◌, Bool, not, ℕ}

abbrev pub is_voltage_source_at : ℕ → Source → Bool
is_voltage_source_at node s = not s.current && (s.node == node)
