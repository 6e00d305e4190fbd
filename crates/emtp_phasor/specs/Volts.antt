-- Voltages and sources in the steady state.
use Rattle.std.specs.List.{find, range_with_len}
use Rattle.std.specs.Prelude.{ℕ, ◌+◌, ◌*◌, ◌/◌, ◌^◌, ◌==◌, ◌&&◌, ℤ, pos, ◌-ℤ◌, ◌*ℤ◌, Bool, true, false, if◌then◌else◌, List, ◌∷◌, length, map, slice_index_or, option_map, unwrap_or}
use Rattle.emtp_fix.specs.Rounding.{near}
use Rattle.emtp_fix.specs.declared.limit.TheConstants.{PICO}
use Rattle.emtp_elim.specs.Matrix.{item, list_of}
use Rattle.emtp_case.specs.Source.{is_voltage_source_at}
use Rattle.emtp_case.specs.Sums.{total}
use Rattle.emtp_case.specs.declared.case.Parts.{Parts}
use Rattle.emtp_case.specs.declared.row_kind.RowKind.{RowKind}
use Rattle.emtp_case.specs.declared.row_kind.RowKind.TheVariants.{Kcl, Sum, Tie, Ground, Source as SourceRow}
use Rattle.emtp_case.specs.declared.source.Shape.{Shape}
use Rattle.emtp_case.specs.declared.source.Shape.TheVariants.{Cosine, NodeVoltage, Pulse, Ramp, Saw, Step, SwitchCurrent, SwitchStatus, Tacs}
use Rattle.emtp_case.specs.declared.source.Source.{Source}
use Rattle.emtp_case.specs.NodeRows.{group_sum, kind_at, node_at}
use Rattle.emtp_case.specs.NodeRows.{row_at}
use Rattle.emtp_wave.specs.Cosine.{cosine}
use Rattle.emtp_admittance.specs.Admittances.{is_imaginary}
use Rattle.emtp_phasor.specs.declared.phasor.Phasor.{Phasor}

abbrev pub nothing : Phasor
nothing = record { re = pos 0; im = pos 0 }

-- ---- sources

abbrev pub cosine_phase : Shape → ℤ
cosine_phase Step = pos 0
cosine_phase (Ramp rise) = pos 0
cosine_phase (Cosine freq phase) = phase
cosine_phase (Tacs var) = pos 0
cosine_phase (Pulse period width) = pos 0
cosine_phase (Saw period) = pos 0
cosine_phase (NodeVoltage node) = pos 0
cosine_phase (SwitchCurrent switch) = pos 0
cosine_phase (SwitchStatus switch) = pos 0

-- the real part goes by the cosine of the phase, the imaginary one by its sine, which is the cosine a quarter turn before
abbrev pub part_phase : Bool → ℤ → ℤ
part_phase false phase = phase
part_phase true phase = phase -ℤ pos (25 * 10 ^ 16)

-- a part of the phasor of a source
abbrev pub source_part : Bool → Source → ℤ
source_part imaginary s = near (s.amplitude *ℤ cosine (part_phase imaginary (cosine_phase s.shape))) PICO

-- a part of what the current sources bring to node n
abbrev pub source_phasors_into : Parts → Bool → ℕ → ℤ
source_phasors_into case imaginary n =
    total (λ (s : Source). if s.current && (s.node == n) then source_part imaginary s else pos 0) case.sources

-- a part of the voltage that a source keeps at node n
abbrev pub source_phasor_at : Parts → Bool → ℕ → ℤ
source_phasor_at case imaginary n =
    unwrap_or (option_map (source_part imaginary) (find (is_voltage_source_at n) case.sources)) (pos 0)

-- ---- the right side

abbrev pub doubled_right_by : Parts → List RowKind → ℕ → RowKind → ℤ
doubled_right_by case kinds r Kcl = source_phasors_into case (is_imaginary r) (node_at case (r / 2))
doubled_right_by case kinds r Sum = group_sum case kinds (r / 2) (source_phasors_into case (is_imaginary r))
doubled_right_by case kinds r (Tie row) = pos 0
doubled_right_by case kinds r Ground = pos 0
doubled_right_by case kinds r SourceRow = source_phasor_at case (is_imaginary r) (node_at case (r / 2))

unfoldable pub doubled_right : Parts → List RowKind → List ℤ
doubled_right case kinds = list_of (2 * length case.nodes) (λ r. doubled_right_by case kinds r (kind_at kinds (r / 2)))

-- ---- voltages

-- the two unknowns of a row
abbrev pub volt_in : List ℤ → ℕ → Phasor
volt_in x row = record { re = item x (2 * row); im = item x (2 * row + 1) }

-- by node number, ground first, from the unknowns by row
unfoldable pub phasors_of : Parts → List ℤ → List Phasor
phasors_of case x = nothing ∷ map (λ n. volt_in x (row_at case n)) (range_with_len 1 (length case.nodes))

abbrev pub volt_at : List Phasor → ℕ → Phasor
volt_at volts n = slice_index_or volts n nothing
