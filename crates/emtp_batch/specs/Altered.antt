-- The case under a row of the table.
use Rattle.std.specs.Prelude.{List, map}
use Rattle.emtp_case.specs.Switch.{with_times}
use Rattle.emtp_case.specs.declared.case.Parts.{Parts}
use Rattle.emtp_batch.specs.declared.table.Row.{Row}

-- the case with the times of a row
abbrev pub altered : Parts → Row → Parts
altered case row = record case { switches = with_times case.switches row.times }

-- the cases that the rows of a table make of a case, each from the case itself
abbrev pub altered_cases : Parts → List Row → List Parts
altered_cases case rows = map (λ row. altered case row) rows
