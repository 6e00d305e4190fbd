-- How far a record is from Kirchhoff's current law at a row's node or group.
use Rattle.std.specs.Prelude.{ℕ, unsigned_abs, List, [], ◌∷◌}
use Rattle.emtp_case.specs.StepRecord.{BranchState, StepRecord}
use Rattle.emtp_case.specs.declared.case.Parts.{Parts}
use Rattle.emtp_case.specs.declared.row_kind.RowKind.{RowKind}
use Rattle.emtp_case.specs.declared.row_kind.RowKind.TheVariants.{Kcl, Sum, Tie, Ground, Source}
use Rattle.emtp_rows.specs.Nodal.{group_sum, node_at, kind_at}
use Rattle.emtp_net.specs.Part.{leaving}
use Rattle.emtp_net.specs.System.{kinds_of}

-- the currents are those of the laws, never those that a matrix gives
abbrev pub residual_by : Parts → List StepRecord → List BranchState → ℕ → RowKind → ℕ
residual_by case past branches row Kcl = unsigned_abs (leaving case past branches (node_at case row))
residual_by case past branches row Sum = unsigned_abs (group_sum case (kinds_of case past) row (leaving case past branches))
residual_by case past branches row (Tie other) = 0
residual_by case past branches row Ground = 0
residual_by case past branches row Source = 0

-- the residual of a row in the step after the records `past`, in which the branches keep these states
abbrev pub residual_of : Parts → List StepRecord → List BranchState → ℕ → ℕ
residual_of case past branches row = residual_by case past branches row (kind_at (kinds_of case past) row)

-- the residual of a row in the last record; in record 0 it is 0
abbrev pub residual : Parts → List StepRecord → ℕ → ℕ
residual case [] row = 0
residual case (r ∷ []) row = 0
residual case (r ∷ s ∷ past) row = residual_of case (s ∷ past) r.branches row
