-- The first row above the tolerance.
use Rattle.std.specs.Prelude.{◌≡◌, ◌<◌, ◌≤◌, ℕ, ℤ, pos, List, length, slice_get, unsigned_abs, Option, Some, None}
use Rattle.emtp_case.specs.StepRecord.{BranchState, StepRecord}
use Rattle.emtp_case.specs.declared.case.Parts.{Parts}
use Rattle.emtp_case.specs.declared.row_kind.RowKind.{RowKind}
use Rattle.emtp_case.specs.declared.row_kind.RowKind.TheVariants.{Kcl, Sum, Tie, Ground, Source}
use Rattle.emtp_elim.specs.Matrix.{item}
use Rattle.emtp_net.specs.held.Moving.{HaveMoved, IsNext}
use Rattle.emtp_net.specs.held.System.{source_values}
use Rattle.emtp_net.specs.Part.{brought_by, leaving_rows}
use Rattle.emtp_net.specs.Residual.{residual_of}
use Rattle.emtp_net.specs.Step.{first_unbalanced}
use Rattle.emtp_net.specs.System.{branch_sum, kinds_of}
use Rattle.emtp_net.specs.declared.branches.Branches.{Branches}
use Rattle.emtp_rows.specs.Nodal.{kind_at, node_at}

-- the magnitude of a row's sum of currents, where the row says one
abbrev pub magnitude_in : ℤ → RowKind → ℕ
magnitude_in x Kcl = unsigned_abs x
magnitude_in x Sum = unsigned_abs x
magnitude_in x (Tie row) = 0
magnitude_in x Ground = 0
magnitude_in x Source = 0

abbrev pub magnitude_at : List RowKind → List ℤ → ℕ → ℕ
magnitude_at kinds sums j = magnitude_in (item sums j) (kind_at kinds j)

-- row p.0 is the first one whose magnitude exceeds the limit, and p.1 is that magnitude
pub record IsFirstAbove (kinds : List RowKind) (sums : List ℤ) (limit : ℕ) (p : ℕ × ℤ) : Type 0 where
  pub within : p.0 < length sums
  pub is : p.1 ≡ pos (magnitude_at kinds sums p.0)
  pub above : limit < magnitude_at kinds sums p.0
  pub earlier : (j : ℕ) → j < p.0 → magnitude_at kinds sums j ≤ limit

-- the first row above the limit, or none
abbrev pub IsUnbalanced : List RowKind → List ℤ → ℕ → Option (ℕ × ℤ) → Type 0
IsUnbalanced kinds sums limit None = (j : ℕ) → j < length sums → magnitude_at kinds sums j ≤ limit
IsUnbalanced kinds sums limit (Some p) = IsFirstAbove kinds sums limit p

-- the first row whose residual exceeds the tolerance, with the residual, where the branches keep these states
abbrev pub Judges : Option (ℕ × ℤ) → Parts → List StepRecord → List BranchState → Type 0
Judges None case H branches = first_unbalanced case H branches ≡ None
Judges (Some p) case H branches =
    (first_unbalanced case H branches ≡ Some p.0) × (p.1 ≡ pos (residual_of case H branches p.0))
    × (p.0 < length case.nodes)

-- the same, by the kinds of the rows and what leaves their nodes
abbrev pub JudgesRows : Option (ℕ × ℤ) → Parts → List RowKind → List ℤ → Type 0
JudgesRows result case kinds leaving =
    (H : List StepRecord) (branches : List BranchState) → kinds ≡ kinds_of case H
    → leaving ≡ leaving_rows case H branches → Judges result case H branches

-- ---- what each call leaves in the rows, once the branches moved to a record

-- the branch currents of that record
abbrev pub FillsCurrents : Parts → Branches → List ℤ → List ℤ → List ℤ → Type 0
FillsCurrents case branches currents old new =
    (H : List StepRecord) (vs : List ℤ) (r : StepRecord) → IsNext case H vs r → HaveMoved branches currents case H vs
    → (j : ℕ) → j < length old → item new j ≡ branch_sum case (λ b. brought_by (slice_get r.branches b)) (node_at case j)

-- what leaves their nodes through branches in that record, less what current sources of these values bring
abbrev pub FillsLeaving : Parts → Branches → List ℤ → List ℤ → List ℤ → Type 0
FillsLeaving case branches currents values new =
    (H : List StepRecord) (vs : List ℤ) (r : StepRecord) → IsNext case H vs r → HaveMoved branches currents case H vs
    → values ≡ source_values case H → new ≡ leaving_rows case H r.branches
