-- The steady state at a frequency, or why there is none, in this order. Two known voltages are tied; the elimination of the
-- doubled system ends in a fault; a current of a branch leaves its range; a residual exceeds the tolerance.
use Rattle.std.specs.List.{position, range_with_len}
use Rattle.std.specs.Prelude.{ℕ, zero, suc, ◌/◌, ◌==◌, ◌&&◌, max, ℤ, pos, ◌+ℤ◌, ◌-ℤ◌, ◌*ℤ◌, unsigned_abs, nat_lt, not, Bool, true, false, if◌then◌else◌, List, length, slice_get, Option, Some, None, Result, Ok, Err}
use Rattle.emtp_fix.specs.Chain.{◌>>=◌, unless}
use Rattle.emtp_fix.specs.Limit.{is_within}
use Rattle.emtp_fix.specs.Rounding.{near}
use Rattle.emtp_fix.specs.declared.limit.TheConstants.{LARGEST_VALUE, PICO}
use Rattle.emtp_elim.specs.Matrix.{Matrix}
use Rattle.emtp_elim.specs.Outcome.{outcome}
use Rattle.emtp_elim.specs.declared.fault.PlainFault.{PlainFault}
use Rattle.emtp_elim.specs.declared.fault.PlainFault.TheVariants.{NoMemory, Row, Solve}
use Rattle.emtp_elim.specs.declared.fault.RowCause.{RowCause}
use Rattle.emtp_elim.specs.declared.fault.RowCause.TheVariants.{Range as RowRange, ZeroPivot as RowPivot}
use Rattle.emtp_case.specs.Branch.{from_of, to_of}
use Rattle.emtp_case.specs.EndNames.{node_of_branch, node_of_switch}
use Rattle.emtp_case.specs.RowOrder.{order_of}
use Rattle.emtp_case.specs.StepRecord.{rest_of}
use Rattle.emtp_case.specs.Sums.{sum_below}
use Rattle.emtp_case.specs.declared.branch.Branch.{Branch}
use Rattle.emtp_case.specs.declared.case.Parts.{Parts}
use Rattle.emtp_case.specs.declared.row_kind.RowKind.{RowKind}
use Rattle.emtp_case.specs.declared.row_kind.RowKind.TheVariants.{Kcl, Sum, Tie, Ground, Source as SourceRow}
use Rattle.emtp_case.specs.NodeRows.{group_sum, kind_at, node_at}
use Rattle.emtp_switch.specs.Groups.{tied_of}
use Rattle.emtp_switch.specs.Kinds as switched
use Rattle.emtp_admittance.specs.Admittances.{in_block, port_at}
use Rattle.emtp_phasor.specs.Doubled.{doubled_matrix}
use Rattle.emtp_admittance.specs.Impedance.{ports_of}
use Rattle.emtp_phasor.specs.Volts.{doubled_right, source_phasors_into, volt_at, phasors_of}
use Rattle.emtp_admittance.specs.declared.admittance.TwoPort.{TwoPort}
use Rattle.emtp_machine.specs.declared.end.Cause.{Cause}
use Rattle.emtp_machine.specs.declared.end.Cause.TheVariants.{Range, Residual, Tied, ZeroPivot}
use Rattle.emtp_phasor.specs.declared.ending.Ending.{Ending}
use Rattle.emtp_phasor.specs.declared.phasor.Phasor.{Phasor}

-- ---- the system

-- the switches are as they are at rest
abbrev pub resting_kinds : Parts → List RowKind
resting_kinds case = switched.kinds_of case (order_of case) (rest_of case).switch_states

abbrev pub doubled_system : Parts → ℤ → Matrix
doubled_system case freq = doubled_matrix (record { case = case; ports = ports_of case freq; kinds = resting_kinds case })

abbrev pub steady_right : Parts → List ℤ
steady_right case = doubled_right case (resting_kinds case)

-- ---- currents

-- a part of the current that enters a branch at an end with voltage v, where the other end has voltage u
abbrev pub entering : Bool → TwoPort → Phasor → Phasor → ℤ
entering part y v u =
    near ((in_block part false y.own *ℤ v.re +ℤ in_block part true y.own *ℤ v.im)
    +ℤ (in_block part false y.other *ℤ u.re +ℤ in_block part true y.other *ℤ u.im)) PICO

-- the same at the first end of a branch and at the second
abbrev pub first_current : Bool → TwoPort → List Phasor → Branch → ℤ
first_current part y volts b = entering part y (volt_at volts (from_of b)) (volt_at volts (to_of b))

abbrev pub second_current : Bool → TwoPort → List Phasor → Branch → ℤ
second_current part y volts b = entering part y (volt_at volts (to_of b)) (volt_at volts (from_of b))

abbrev pub is_in_range : ℤ → Bool
is_in_range i = is_within LARGEST_VALUE i

-- both parts of both currents are in range
abbrev pub flows : TwoPort → List Phasor → Option Branch → Bool
flows y volts None = true
flows y volts (Some b) =
    (is_in_range (first_current false y volts b) && is_in_range (first_current true y volts b))
    && (is_in_range (second_current false y volts b) && is_in_range (second_current true y volts b))

abbrev pub first_flow_out : Parts → List TwoPort → List Phasor → Option ℕ
first_flow_out case ports volts =
    position (λ b. not (flows (port_at ports b) volts (slice_get case.branches b)))
    (range_with_len 0 (length case.branches))

-- ---- residuals

-- a part of the current that leaves node n through a branch
abbrev pub leaving_through : Bool → TwoPort → List Phasor → ℕ → Option Branch → ℤ
leaving_through part y volts n None = pos 0
leaving_through part y volts n (Some b) =
    (if from_of b == n then first_current part y volts b else pos 0)
    +ℤ (if to_of b == n then second_current part y volts b else pos 0)

-- a part of the current that leaves node n through branches, less what its current sources bring
abbrev pub leaving_node : Parts → List TwoPort → List Phasor → Bool → ℕ → ℤ
leaving_node case ports volts part n =
    sum_below (length case.branches)
    (λ b. leaving_through part (port_at ports b) volts n (slice_get case.branches b))
    -ℤ source_phasors_into case part n

-- the greater magnitude of the two parts
abbrev pub residual_in : Parts → List TwoPort → List Phasor → ℕ → RowKind → ℕ
residual_in case ports volts i Kcl =
    max (unsigned_abs (leaving_node case ports volts false (node_at case i)))
    (unsigned_abs (leaving_node case ports volts true (node_at case i)))
residual_in case ports volts i Sum =
    max (unsigned_abs (group_sum case (resting_kinds case) i (leaving_node case ports volts false)))
    (unsigned_abs (group_sum case (resting_kinds case) i (leaving_node case ports volts true)))
residual_in case ports volts i (Tie row) = 0
residual_in case ports volts i Ground = 0
residual_in case ports volts i SourceRow = 0

abbrev pub row_residual : Parts → List TwoPort → List Phasor → ℕ → ℕ
row_residual case ports volts i = residual_in case ports volts i (kind_at (resting_kinds case) i)

abbrev pub first_residual_above : Parts → List TwoPort → List Phasor → Option ℕ
first_residual_above case ports volts =
    position (λ i. nat_lt (unsigned_abs case.run.tolerance) (row_residual case ports volts i))
    (range_with_len 0 (length case.nodes))

abbrev pub greatest_below : ℕ → (ℕ → ℕ) → ℕ
greatest_below zero f = 0
greatest_below (suc n) f = max (greatest_below n f) (f n)

-- ---- names

abbrev pub ending_at : ℕ → Cause → Ending
ending_at node cause = record { node = node; cause = cause; measured = pos 0 }

-- a fault of row r is named by the node of network row r / 2
abbrev pub cause_of : RowCause → Cause
cause_of RowRange = Range
cause_of RowPivot = ZeroPivot

abbrev pub ending_of : Parts → PlainFault → Ending
ending_of case (Row fault) = ending_at (node_at case (fault.row / 2)) (cause_of fault.cause)
ending_of case (Solve fault) = ending_at (node_at case (fault.row / 2)) Range
ending_of case NoMemory = ending_at 0 Range

-- ---- the steady state

-- the voltages by node number, ground first, and the greatest residual
pub record State : Type 0 where
  pub volts : List Phasor
  pub residual : ℕ

abbrev pub untied_at_rest : Parts → Result (Unit {0}) Ending
untied_at_rest case =
    unless (tied_of case.switches (order_of case) (rest_of case).switch_states)
    (λ s. ending_at (node_of_switch case s) Tied) (Ok tt)

abbrev pub named_ending : Parts → Result (List ℤ) PlainFault → Result (List ℤ) Ending
named_ending case (Ok x) = Ok x
named_ending case (Err fault) = Err (ending_of case fault)

-- the unknowns of the doubled system, eliminated from its first row
abbrev pub doubled_solution : Parts → ℤ → Result (List ℤ) Ending
doubled_solution case freq = named_ending case (outcome (doubled_system case freq) (steady_right case))

abbrev pub within : Parts → List TwoPort → List Phasor → Result (List Phasor) Ending
within case ports volts = unless (first_flow_out case ports volts) (λ b. ending_at (node_of_branch case b) Range) (Ok volts)

abbrev pub balanced_residuals : Parts → List TwoPort → List Phasor → Result State Ending
balanced_residuals case ports volts =
    unless (first_residual_above case ports volts)
    (λ i. record { node = node_at case i; cause = Residual; measured = pos (row_residual case ports volts i) })
    (Ok (record { volts = volts; residual = greatest_below (length case.nodes) (row_residual case ports volts) }))

unfoldable pub steady : Parts → ℤ → Result State Ending
steady case freq = do
  none ← untied_at_rest case
  x ← doubled_solution case freq
  volts ← within case (ports_of case freq) (phasors_of case x)
  balanced_residuals case (ports_of case freq) volts
