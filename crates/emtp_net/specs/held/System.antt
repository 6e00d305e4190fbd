-- Beside `System`: what values hold for their proofs, and what premises say. No clause of the program reaches it.
use Rattle.std.specs.Prelude.{ℕ, ℤ, List, map, slice_get}
use Rattle.emtp_case.specs.StepRecord.{StepRecord}
use Rattle.emtp_case.specs.declared.case.Parts.{Parts}
use Rattle.emtp_net.specs.System.{conductance_by, source_value}

abbrev pub source_values : Parts → List StepRecord → List ℤ
source_values case H = map (source_value case H) case.sources

abbrev pub conductance_at : Parts → List StepRecord → ℕ → ℤ
conductance_at case H b = conductance_by case H b (slice_get case.branches b)
