-- The kinds of the rows, by the switches at rest.
use Rattle.std.proofs.Common.{◌≡◌, ◌∙◌, ap, ◌≤◌, ◌∷◌, [], List, length, refl, arith}
use Rattle.emtp_case.specs.held.RowKinds.{AreKinds}
use Rattle.emtp_case.specs.RowOrder.{Rows, order_of}
use Rattle.emtp_case.specs.StepRecord.{rest_of}
use Rattle.emtp_case.specs.declared.case.Parts.{Parts}
use Rattle.emtp_case.specs.declared.row_kind.RowKind.{RowKind}
use Rattle.emtp_case.proofs.RowsOfNodes.{fixed_within}
use Rattle.emtp_switch.specs.Kinds as switched
use Rattle.emtp_switch.specs.held.Switching.{StandsFor, Switching}
use Rattle.emtp_phasor.specs.Steady.{resting_kinds}

pub kinds_are : (case : Parts) (order : Rows) (s : Switching) (out : List RowKind) → order ≡ order_of case → s.case ≡ case → s.rows ≡ order → StandsFor s (rest_of case ∷ []) → out ≡ switched.kinds_of s.case s.rows s.states → out ≡ resting_kinds case
kinds_are case order s out is same rows stands found = found ∙ rw (same, rows, is, stands.states_are) refl

pub lawful_kinds : (case : Parts) (order : Rows) (s : Switching) (out : List RowKind) → order ≡ order_of case → s.case ≡ case → s.rows ≡ order → (s.rows.fixed ≤ length s.case.nodes → AreKinds (length s.case.nodes) s.rows.fixed out) → AreKinds (length case.nodes) order.fixed out
lawful_kinds case order s out is same rows found =
    let within : order.fixed ≤ length case.nodes = omega (arith, ap (λ (o : Rows). o.fixed) is, fixed_within case) in
    let there : s.rows.fixed ≤ length s.case.nodes = rw (same, rows) within in
    rw (same, rows) at (found there)
