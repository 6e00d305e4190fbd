-- What is held of the current sources for each row.
use Rattle.std.specs.Prelude.{ℕ, ◌<◌, ◌≤◌, ◌*◌, ◌/◌, ◌^◌, ℤ, unsigned_abs, List, length}
use Rattle.emtp_elim.specs.Matrix.{item, list_of}
use Rattle.emtp_case.specs.NodeRows.{node_at}
use Rattle.emtp_case.specs.declared.case.Parts.{Parts}
use Rattle.emtp_admittance.specs.Admittances.{is_imaginary}
use Rattle.emtp_phasor.specs.Volts.{source_phasors_into}

-- for each row of the doubled system what they bring to its node, of its part
unfoldable pub brought_by_row : Parts → List ℤ
brought_by_row case = list_of (2 * length case.nodes) (λ r. source_phasors_into case (is_imaginary r) (node_at case (r / 2)))

-- none of it is beyond what 500 sources bring
abbrev pub IsSmallBrought : Parts → List ℤ → Type 0
IsSmallBrought case brought = (r : ℕ) → r < 2 * length case.nodes → unsigned_abs (item brought r) ≤ 10 ^ 21
