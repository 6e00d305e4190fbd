-- How the fields of a system hold together.
use Rattle.std.specs.Prelude.{◌≡◌, ◌+◌, ◌*◌, ℤ, None, All, length}
use Rattle.emtp_admittance.specs.Impedance.{ports_of}
use Rattle.emtp_admittance.specs.held.Admittances.{IsSmallPort}
use Rattle.emtp_case.specs.held.RowKinds.{TieIsThere}
use Rattle.emtp_case.specs.RowOrder.{order_of}
use Rattle.emtp_case.specs.StepRecord.{rest_of}
use Rattle.emtp_case.specs.declared.case.Parts.{Parts}
use Rattle.emtp_elim.specs.held.WorkRow.{IsClearRow}
use Rattle.emtp_switch.specs.Groups.{tied_of}
use Rattle.emtp_phasor.specs.held.HeldBranches.{branches_by_row}
use Rattle.emtp_phasor.specs.held.HeldGroups.{members_by_row}
use Rattle.emtp_phasor.specs.held.HeldSources.{IsSmallBrought, brought_by_row}
use Rattle.emtp_phasor.specs.Steady.{resting_kinds, steady_right}
use Rattle.emtp_phasor.specs.declared.resting_network.RestingNetwork.{RestingNetwork}
use Rattle.emtp_phasor.specs.declared.workspace.Workspace.{Workspace}
use Rattle.emtp_phasor.specs.declared.doubled_system.System.{System}

-- it is of the case, whose switches tie no two known voltages at rest
pub record IsResting (case : Parts) (n : RestingNetwork) : Type 0 where
  pub order_is : n.order ≡ order_of case
  pub free : tied_of case.switches (order_of case) (rest_of case).switch_states ≡ None
  pub kinds_are : n.kinds.items ≡ resting_kinds case
  pub ties : All (TieIsThere (length case.nodes)) n.kinds.items
  pub lists_are : n.lists.items ≡ branches_by_row case
  pub groups_are : n.groups.items ≡ members_by_row (resting_kinds case)
  pub brought_are : n.brought.items ≡ brought_by_row case
  pub brought_small : IsSmallBrought case n.brought.items

-- its row at work is clear, and each part has its length
pub record HasWorkspace (case : Parts) (workspace : Workspace) : Type 0 where
  pub done_size : workspace.done.size ≡ 2 * length case.nodes
  pub work_clear : IsClearRow (2 * length case.nodes) workspace.work
  pub rhs_count : length workspace.rhs.items ≡ 2 * length case.nodes
  pub x_count : length workspace.x.items ≡ 2 * length case.nodes
  pub volts_count : length workspace.volts.items ≡ length case.nodes + 1

-- its network and its right side are those of the case, and it has its workspace
pub record IsReady (case : Parts) (s : System) : Type 0 where
  pub resting : IsResting case s.resting
  pub right_is : s.right.items ≡ steady_right case
  pub ports_count : length s.ports.items ≡ length case.branches
  pub workspace : HasWorkspace case s.workspace

-- its two-ports are those of a frequency
pub record HasPorts (case : Parts) (freq : ℤ) (s : System) : Type 0 where
  pub are : s.ports.items ≡ ports_of case freq
  pub small : All IsSmallPort s.ports.items
