-- A mirrored case has the same rows, kinds of rows and matrix.
use Rattle.std.proofs.Common.{◌≡◌, ◌||◌, ℤ, List, map, ap}
use Rattle.std.specs.List.{list_any}
use Rattle.std.proofs.Math.Path.{fun_ext}
use Rattle.emtp_case.specs.RowOrder.{Rows, has_source, order_of}
use Rattle.emtp_case.specs.Source.{is_voltage_source_at}
use Rattle.emtp_case.specs.declared.case.Parts.{Parts}
use Rattle.emtp_case.specs.declared.row_kind.RowKind.{RowKind}
use Rattle.emtp_case.specs.declared.switch.SwitchState.{SwitchState}
use Rattle.emtp_rows.specs.Nodal.{nodal_matrix, node_at}
use Rattle.emtp_switch.specs.Kinds.{has_feed, is_branch_at, is_current_source_at, kinds_of}
use Rattle.emtp_laws.specs.Mirror.{mirror_image, mirrored_source}
use Rattle.emtp_laws.proofs.AlikeRows as alike
use Rattle.emtp_laws.proofs.AlikeRows.{Other, nodal_with}
use Rattle.emtp_laws.proofs.MirroredNumbers.{any_map}

-- the mirrored sources
abbrev opposite : Parts → Other
opposite case = record { dt = case.run.dt; steps = case.run.steps; sources = map mirrored_source case.sources; tacs_sources = case.tacs_sources }

has_source_same : (case : Parts) → has_source (mirror_image case) ≡ has_source case
has_source_same case = fun_ext (λ node. any_map (is_voltage_source_at node) mirrored_source case.sources)

feed_same : (case : Parts) → has_feed (mirror_image case) ≡ has_feed case
feed_same case = fun_ext (λ node. ap (λ b. list_any (is_branch_at node) case.branches || b) (any_map (is_current_source_at node) mirrored_source case.sources))

pub order_same : (case : Parts) → order_of (mirror_image case) ≡ order_of case
order_same case = alike.order_same case (opposite case) (has_source_same case)

pub nodes_same : (case : Parts) → node_at (mirror_image case) ≡ node_at case
nodes_same case = alike.nodes_same case (opposite case) (has_source_same case)

pub kinds_same : (case : Parts) (rows : Rows) (states : List SwitchState) → kinds_of (mirror_image case) rows states ≡ kinds_of case rows states
kinds_same case = alike.kinds_same case (opposite case) (feed_same case)

pub matrix_same : (case : Parts) (own coupling : List ℤ) (kinds : List RowKind) → nodal_matrix (nodal_with (mirror_image case) own coupling kinds) ≡ nodal_matrix (nodal_with case own coupling kinds)
matrix_same case = alike.matrix_same case (opposite case) (has_source_same case)
