-- One step of the network: its part of the next record, or the first fault in this order. Two known voltages are tied;
-- the elimination ends in a fault; a branch, then a switch, leaves its range; a residual exceeds the tolerance.
use Rattle.std.specs.List.{position, range_with_len}
use Rattle.std.specs.Prelude.{ℕ, ℤ, pos, unsigned_abs, nat_lt, not, List, length, Option, Result, Ok, Err}
pub use Rattle.emtp_case.specs.EndNames.{node_of_switch}
use Rattle.emtp_case.specs.RowOrder.{order_of}
use Rattle.emtp_case.specs.StepRecord.{BranchState, StepRecord}
use Rattle.emtp_case.specs.declared.case.Parts.{Parts}
use Rattle.emtp_elim.specs.Outcome.{outcome}
use Rattle.emtp_fix.specs.Chain.{◌>>=◌, unless}
use Rattle.emtp_fix.specs.Limit.{is_within}
use Rattle.emtp_elim.specs.declared.fault.PlainFault.{PlainFault}
use Rattle.emtp_elim.specs.declared.fault.PlainFault.TheVariants.{NoMemory, Row, Solve}
use Rattle.emtp_elim.specs.declared.fault.RowCause.{RowCause}
use Rattle.emtp_elim.specs.declared.fault.RowCause.TheVariants.{Range as RowRange, ZeroPivot as RowPivot}
use Rattle.emtp_elim.specs.Matrix.{item}
use Rattle.emtp_fix.specs.declared.limit.TheConstants.{LARGEST_VALUE}
use Rattle.emtp_rows.specs.Nodal.{node_at}
use Rattle.emtp_switch.specs.Groups.{tied_of}
use Rattle.emtp_switch.specs.States.{next_states}
use Rattle.emtp_net.specs.Part.{NetworkPart, first_out, node_of_branch, part_at, voltages_of}
use Rattle.emtp_net.specs.Residual.{residual_of}
use Rattle.emtp_net.specs.System.{matrix, right}
use Rattle.emtp_net.specs.declared.fault.NetFault.{NetFault}
use Rattle.emtp_net.specs.declared.fault.NetFault.TheVariants.{Range, Residual, Tied, ZeroPivot}

-- the switches of the next step tie no two known voltages
abbrev pub untied : Parts → List StepRecord → Result (Unit {0}) NetFault
untied case H = unless (tied_of case.switches (order_of case) (next_states case H)) (λ s. Tied (node_of_switch case s)) (Ok tt)

-- a fault of the elimination is named by its row's node
abbrev pub fault_by : RowCause → ℕ → NetFault
fault_by RowRange node = Range node
fault_by RowPivot node = ZeroPivot node

abbrev pub fault_of : Parts → PlainFault → NetFault
fault_of case (Row fault) = fault_by fault.cause (node_at case fault.row)
fault_of case (Solve fault) = Range (node_at case fault.row)
fault_of case NoMemory = Range 0

abbrev pub named : Parts → Result (List ℤ) PlainFault → Result (List ℤ) NetFault
named case (Ok x) = Ok x
named case (Err fault) = Err (fault_of case fault)

-- the unknowns of the nodal system, built anew and eliminated from its first row
abbrev pub solution : Parts → List StepRecord → Result (List ℤ) NetFault
solution case H = named case (outcome (matrix case H) (right case H))

-- the branches and switch currents at these voltages, or the first branch out of range
abbrev pub moved : Parts → List StepRecord → List ℤ → Result NetworkPart NetFault
moved case H vs = unless (first_out case H vs) (λ b. Range (node_of_branch case b)) (Ok (part_at case H vs))

-- the first switch whose current is out of range
abbrev pub first_beyond : List ℤ → Option ℕ
first_beyond currents = position (λ s. not (is_within LARGEST_VALUE (item currents s))) (range_with_len 0 (length currents))

abbrev pub switched : Parts → NetworkPart → Result NetworkPart NetFault
switched case part = unless (first_beyond part.switch_currents) (λ s. Range (node_of_switch case s)) (Ok part)

-- the first row whose residual exceeds the tolerance
abbrev pub first_unbalanced : Parts → List StepRecord → List BranchState → Option ℕ
first_unbalanced case H branches =
    position (λ i. nat_lt (unsigned_abs case.run.tolerance) (residual_of case H branches i))
    (range_with_len 0 (length case.nodes))

abbrev pub balanced : Parts → List StepRecord → NetworkPart → Result NetworkPart NetFault
balanced case H part =
    unless (first_unbalanced case H part.branches)
    (λ i. Residual (node_at case i) (pos (residual_of case H part.branches i))) (Ok part)

-- the network's part of the next record, or the first fault
unfoldable pub network_part : Parts → List StepRecord → Result NetworkPart NetFault
network_part case H = do
  none ← untied case H
  x ← solution case H
  part ← moved case H (voltages_of case x)
  within ← switched case part
  balanced case H within
