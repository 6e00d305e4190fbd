-- The rows of the right side.
use Rattle.std.specs.List.{find, position_or_len}
use Rattle.std.specs.Prelude.{◌≡◌, ◌<◌, ℕ, ◌==◌, ◌&&◌, ℤ, pos, ◌+ℤ◌, if◌then◌else◌, List, length, map, option_map, slice_index, unwrap_or}
use Rattle.std.specs.List.{range_with_len}
use Rattle.emtp_case.specs.Source.{is_voltage_source_at}
use Rattle.emtp_case.specs.declared.case.Parts.{Parts}
use Rattle.emtp_case.specs.declared.row_kind.RowKind.{RowKind}
use Rattle.emtp_case.specs.declared.row_kind.RowKind.TheVariants.{Kcl, Sum, Tie, Ground, Source as SourceRow}
use Rattle.emtp_case.specs.declared.source.Source.{Source}
use Rattle.emtp_case.specs.StepRecord.{StepRecord}
use Rattle.emtp_elim.specs.Matrix.{item}
use Rattle.emtp_rows.specs.Nodal.{kind_at, node_at}
use Rattle.emtp_case.specs.Sums.{total}
use Rattle.emtp_net.specs.held.Branches.{StandsFor}
use Rattle.emtp_net.specs.held.System.{source_values}
use Rattle.emtp_net.specs.System.{branch_sum, history_at, kinds_of, right}
use Rattle.emtp_net.specs.declared.branches.Branches.{Branches}

-- what current sources of these values bring to node n
abbrev pub brought : (Source → ℤ) → ℕ → List Source → ℤ
brought f n sources = total (λ (s : Source). if s.current && (s.node == n) then f s else pos 0) sources

-- where the voltage source of each row's node stands among the sources, or their number
abbrev pub place_at : Parts → ℕ → ℕ
place_at case i = position_or_len (is_voltage_source_at (node_at case i)) case.sources

abbrev pub places_of : Parts → List ℕ
places_of case = map (place_at case) (range_with_len 0 (length case.nodes))

-- the voltage that a source of these values keeps at node n
abbrev pub kept_voltage : Parts → (Source → ℤ) → ℕ → ℤ
kept_voltage case f n = unwrap_or (option_map f (find (is_voltage_source_at n) case.sources)) (pos 0)

-- the right side of a row of a kind, by the sum x of its currents and the voltage v of its source
abbrev pub row_value : ℤ → ℤ → RowKind → ℤ
row_value x v Kcl = x
row_value x v Sum = x
row_value x v (Tie row) = pos 0
row_value x v Ground = pos 0
row_value x v SourceRow = v

-- ---- what each call leaves in the rows

-- the history currents of all branches
abbrev pub FillsHistories : Parts → Branches → List ℤ → List ℤ → Type 0
FillsHistories case branches old new =
    (H : List StepRecord) → StandsFor branches H → (j : ℕ) → j < length old
    → item new j ≡ branch_sum case (history_at case H) (node_at case j)

-- beside what stood there, the current sources of these values
abbrev pub AddsSources : Parts → List ℤ → List ℤ → List ℤ → Type 0
AddsSources case values old new =
    (f : Source → ℤ) → values ≡ map f case.sources → (j : ℕ) → j < length old
    → item new j ≡ item old j +ℤ brought f (node_at case j) case.sources

-- the right sides, by the sums of currents
abbrev pub SetsRows : List RowKind → List ℕ → List ℤ → List ℤ → List ℤ → Type 0
SetsRows kinds places values old new =
    (j : ℕ) → j < length old → item new j ≡ row_value (item old j) (item values (slice_index places j)) (kind_at kinds j)

-- the right side of the next step, for all records for which the branches stand
abbrev pub FillsRight : Parts → Branches → List RowKind → List ℤ → List ℤ → Type 0
FillsRight case branches kinds values new =
    (H : List StepRecord) → StandsFor branches H → kinds ≡ kinds_of case H → values ≡ source_values case H → new ≡ right case H
