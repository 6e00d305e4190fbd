-- Kirchhoff's current law in a steady state, and the node that an end names.
use Rattle.std.specs.Prelude.{◌≤◌, ◌<◌, ℕ, ℤ, unsigned_abs, Bool, false, true, List, Contains, length}
use Rattle.emtp_case.specs.NodeRows.{group_sum, kind_at, node_at}
use Rattle.emtp_case.specs.held.EndNames.{IsNode}
use Rattle.emtp_case.specs.declared.case.Parts.{Parts}
use Rattle.emtp_case.specs.declared.row_kind.RowKind.{RowKind}
use Rattle.emtp_case.specs.declared.row_kind.RowKind.TheVariants.{Kcl, Sum, Tie, Ground, Source}
use Rattle.emtp_admittance.specs.Impedance.{ports_of}
use Rattle.emtp_admittance.specs.declared.admittance.TwoPort.{TwoPort}
use Rattle.emtp_machine.specs.Next.{node_name}
use Rattle.emtp_phasor.specs.Steady.{State, leaving_node, resting_kinds}
use Rattle.emtp_phasor.specs.declared.ending.Ending.{Ending}
use Rattle.emtp_phasor.specs.declared.phasor.Phasor.{Phasor}

-- the two parts of a current, in nA, are at most this in magnitude
pub record AreAtMost (most : ℕ) (current : Bool → ℤ) : Type 0 where
  pub real : unsigned_abs (current false) ≤ most
  pub imaginary : unsigned_abs (current true) ≤ most

-- what leaves the node of a row, or the nodes of its group together, through branches, less what current sources bring there,
-- is at most this. The other rows know the voltage of their node, or that it is another's.
abbrev pub IsRowBalanced : Parts → List TwoPort → List Phasor → ℕ → ℕ → RowKind → Type 0
IsRowBalanced case ports volts most row Kcl = AreAtMost most (λ part. leaving_node case ports volts part (node_at case row))
IsRowBalanced case ports volts most row Sum =
    AreAtMost most (λ part. group_sum case (resting_kinds case) row (leaving_node case ports volts part))
IsRowBalanced case ports volts most row (Tie other) = Unit {0}
IsRowBalanced case ports volts most row Ground = Unit {0}
IsRowBalanced case ports volts most row Source = Unit {0}

-- each row is balanced within the residual that is printed, and that is within the tolerance of the case
pub record IsBalanced (case : Parts) (freq : ℤ) (s : State) : Type 0 where
  pub rows : (row : ℕ) → row < length case.nodes
      → IsRowBalanced case (ports_of case freq) s.volts s.residual row (kind_at (resting_kinds case) row)
  pub residual : s.residual ≤ unsigned_abs case.run.tolerance

-- an end names a node of the case, and not ground
pub record NamesNode (case : Parts) (end : Ending) : Type 0 where
  pub node : IsNode case end.node
  pub name : Contains case.nodes (node_name case end.node)
