-- A case with other sources, another time step and another number of steps has the same rows, where the same nodes have sources.
use Rattle.std.proofs.Common.{◌≡◌, ◌∙◌, ◌==◌, ◌&&◌, not, ℕ, zero, suc, ℤ, pos, if◌then◌else◌, Bool, List, map, length, slice_index, refl, ap}
use Rattle.std.specs.List.{count_by, position_or_len, range_with_len}
use Rattle.std.specs.Ordering.{is_lt}
use Rattle.std.proofs.Math.Path.{fun_ext}
use Rattle.emtp_case.specs.RowOrder.{Rows, class_of, ends_in, goes_before, has_source, in_order, key_cmp, key_of, may_change, order_of, put_in, touches_switch}
use Rattle.emtp_case.specs.Sums.{sum_below}
use Rattle.emtp_case.specs.declared.case.Parts.{Parts}
use Rattle.emtp_case.specs.declared.row_kind.RowKind.{RowKind}
use Rattle.emtp_case.specs.declared.row_kind.RowKind.TheVariants.{Kcl, Sum, Tie, Ground, Source as SourceRow}
use Rattle.emtp_case.specs.declared.row_order.Class.{Class}
use Rattle.emtp_case.specs.declared.row_order.Class.TheVariants.{Changing, Constant, Source as SourceClass}
use Rattle.emtp_case.specs.declared.row_order.Key.{Key}
use Rattle.emtp_case.specs.declared.source.Source.{Source}
use Rattle.emtp_case.specs.declared.switch.SwitchState.{SwitchState}
use Rattle.emtp_elim.specs.Matrix.{matrix_of}
use Rattle.emtp_rows.specs.Nodal.{Nodal, current_entry, entry_by, is_member, kind_at, nodal_matrix, node_at}
use Rattle.emtp_rows.specs.held.Touched.{row_at}
use Rattle.emtp_switch.specs.Groups.{labels_of, root_of}
use Rattle.emtp_switch.specs.Kinds.{count_members, has_feed, has_member, kind_by, kinds_of}

-- what may be another number or list
pub record Other : Type 0 where
  pub dt : ℤ
  pub steps : ℕ
  pub sources : List Source
  pub tacs_sources : List Source

abbrev pub changed : Other → Parts → Parts
changed o case = record case { run = record case.run { dt = o.dt; steps = o.steps }; sources = o.sources; tacs_sources = o.tacs_sources }

-- the same nodes have voltage sources
abbrev pub SameKnown : Other → Parts → Type 0
SameKnown o case = has_source (changed o case) ≡ has_source case

abbrev pub nodal_with : Parts → List ℤ → List ℤ → List RowKind → Nodal
nodal_with case own coupling kinds = record { case = case; own = own; coupling = coupling; kinds = kinds }

-- ---- the kinds of the rows

pub kinds_same : (case : Parts) (o : Other) → has_feed (changed o case) ≡ has_feed case → (rows : Rows) (states : List SwitchState) → kinds_of (changed o case) rows states ≡ kinds_of case rows states
kinds_same case o feed rows states =
    let labels = labels_of case.switches rows states in
    ap (λ (f : ℕ → Bool). map (λ (node : ℕ).
    kind_by rows node (root_of rows labels node)
    (has_member rows.nodes labels (touches_switch case) (slice_index labels node) && not (has_member rows.nodes labels f (slice_index labels node)))
    (count_members rows.nodes labels (slice_index labels node) == 1)) rows.nodes) feed

module _ (case : Parts) (o : Other) (known : SameKnown o case) where
  -- ---- the order of the rows

  class_same : (node : ℕ) → class_of (changed o case) node ≡ class_of case node
  class_same node = ap (λ (f : ℕ → Bool). if f node then SourceClass else if may_change case node then Changing else Constant) known

  ends_same : (c : Class) (node : ℕ) → ends_in c (changed o case) node ≡ ends_in c case node
  ends_same SourceClass node = refl
  ends_same Constant node = refl
  ends_same Changing node = refl

  key_same : (node : ℕ) → key_of (changed o case) node ≡ key_of case node
  key_same node =
      ap (λ (c : Class). let k : Key = record { class = c; ends = ends_in c (changed o case) node; node = node } in k) (class_same node)
      ∙ ap (λ (n : ℕ). let k : Key = record { class = class_of case node; ends = n; node = node } in k) (ends_same (class_of case node) node)

  before_same : goes_before (changed o case) ≡ goes_before case
  before_same = ap {B = ℕ → ℕ → Bool} (λ (k : ℕ → Key) (a b : ℕ). is_lt (key_cmp (k a) (k b))) (fun_ext key_same)

  in_order_same : (n : ℕ) → in_order (changed o case) n ≡ in_order case n
  in_order_same zero = refl
  in_order_same (suc n) =
      ap (λ (g : ℕ → ℕ → Bool). put_in g (suc n) (in_order (changed o case) n)) before_same
      ∙ ap (put_in (goes_before case) (suc n)) (in_order_same n)

  pub order_same : order_of (changed o case) ≡ order_of case
  order_same =
      ap (λ (f : ℕ → Bool). let r : Rows = record { nodes = in_order (changed o case) (length case.nodes); fixed = count_by f (range_with_len 1 (length case.nodes)) } in r) known
      ∙ ap (λ (ns : List ℕ). let r : Rows = record { nodes = ns; fixed = count_by (has_source case) (range_with_len 1 (length case.nodes)) } in r) (in_order_same (length case.nodes))

  pub nodes_same : node_at (changed o case) ≡ node_at case
  nodes_same = ap {B = ℕ → ℕ} (λ (r : Rows) (i : ℕ). slice_index r.nodes i) order_same

  pub rows_same : row_at (changed o case) ≡ row_at case
  rows_same = ap {B = ℕ → ℕ} (λ (r : Rows) (n : ℕ). position_or_len (λ m. m == n) r.nodes) order_same

  -- ---- the matrix

  entry_same : (own coupling : List ℤ) (kinds : List RowKind) (i j : ℕ) (k : RowKind) → entry_by (nodal_with (changed o case) own coupling kinds) i j k ≡ entry_by (nodal_with case own coupling kinds) i j k
  entry_same own coupling kinds i j Kcl = ap (λ (f : ℕ → ℕ). current_entry case own coupling (f i) (f j)) nodes_same
  entry_same own coupling kinds i j Sum =
      ap (λ (f : ℕ → ℕ). sum_below (length case.nodes) (λ k. if is_member kinds i k then current_entry case own coupling (f k) (f j) else pos 0)) nodes_same
  entry_same own coupling kinds i j (Tie row) = refl
  entry_same own coupling kinds i j Ground = refl
  entry_same own coupling kinds i j SourceRow = refl

  pub matrix_same : (own coupling : List ℤ) (kinds : List RowKind) → nodal_matrix (nodal_with (changed o case) own coupling kinds) ≡ nodal_matrix (nodal_with case own coupling kinds)
  unfolding nodal_matrix
  matrix_same own coupling kinds =
      ap (matrix_of (length case.nodes)) (fun_ext (λ i. fun_ext (λ j. entry_same own coupling kinds i j (kind_at kinds i))))
