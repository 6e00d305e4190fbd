-- What is true of the voltages and the currents at the nodes of a record.
use Rattle.std.specs.Prelude.{◌≡◌, ◌≢◌, ◌<◌, ◌≤◌, ◌∷◌, [], ℕ, ℤ, pos, ◌+ℤ◌, false, true, unsigned_abs, List, All, length, slice_index}
use Rattle.emtp_case.specs.RowOrder.{has_source, order_of}
use Rattle.emtp_case.specs.StepRecord.{StepRecord}
use Rattle.emtp_case.specs.declared.case.Parts.{Parts}
use Rattle.emtp_case.specs.declared.source.Source.{Source}
use Rattle.emtp_case.specs.declared.switch.SwitchState.{SwitchState}
use Rattle.emtp_elim.specs.Matrix.{item}
use Rattle.emtp_net.specs.Part.{NetworkPart, leaving}
use Rattle.emtp_net.specs.held.Part.{network_of}
use Rattle.emtp_net.specs.System.{source_value}
use Rattle.emtp_switch.specs.held.Currents.{through_switches}
use Rattle.emtp_switch.specs.Groups.{from_at, is_closed_at, labels_of, root_of, to_at}
use Rattle.emtp_switch.specs.States.{next_states}

-- ---- voltages

-- both ends of each closed switch have the same voltage, to the last digit
abbrev pub JoinEnds : Parts → List SwitchState → List ℤ → Type 0
JoinEnds case states voltages =
    (s : ℕ) → s < length case.switches → is_closed_at states s ≡ true
    → item voltages (from_at case.switches s) ≡ item voltages (to_at case.switches s)

-- the node of each voltage source has its value in the step after the records, to the last digit
abbrev pub KeepSources : Parts → List StepRecord → List ℤ → Type 0
KeepSources case H voltages = All (λ (s : Source). s.current ≡ false → item voltages s.node ≡ source_value case H s) case.sources

-- the same in the last record of a run, after the ones before it; in record 0 all is 0
abbrev pub AreSourcesKept : Parts → List StepRecord → Type 0
AreSourcesKept case [] = Unit {0}
AreSourcesKept case (r ∷ []) = Unit {0}
AreSourcesKept case (r ∷ s ∷ past) = KeepSources case (s ∷ past) r.voltages

-- the groups of nodes that closed switches join in the step after the records: nodes of one group have one label
abbrev pub labels_next : Parts → List StepRecord → List ℕ
labels_next case H = labels_of case.switches (order_of case) (next_states case H)

-- each node that closed switches join to ground in the step after the records, through other nodes too, is exactly at 0
abbrev pub KeepsGround : Parts → List StepRecord → List ℤ → Type 0
KeepsGround case H voltages =
    (n : ℕ) → n ≤ length case.nodes → slice_index (labels_next case H) n ≡ slice_index (labels_next case H) 0
    → item voltages n ≡ pos 0

-- the same in the last record of a run, after the ones before it; in record 0 all is 0
abbrev pub IsGroundKept : Parts → List StepRecord → Type 0
IsGroundKept case [] = Unit {0}
IsGroundKept case (r ∷ []) = Unit {0}
IsGroundKept case (r ∷ s ∷ past) = KeepsGround case (s ∷ past) r.voltages

-- ---- currents

-- the root of the group of a node
abbrev pub root_next : Parts → List StepRecord → ℕ → ℕ
root_next case H m = root_of (order_of case) (labels_next case H) m

-- no closed switches join node n to ground or to a node with a voltage source in the step after the records
pub record HasUnknownVoltage (case : Parts) (H : List StepRecord) (n : ℕ) : Type 0 where
  pub off_ground : slice_index (labels_next case H) 0 ≢ slice_index (labels_next case H) n
  pub off_sources : (m : ℕ) → 1 ≤ m → m ≤ length case.nodes → has_source case m ≡ true
      → slice_index (labels_next case H) m ≢ slice_index (labels_next case H) n

-- the current that leaves node n in the step after the records: through branches, less what current sources bring, and through
-- switches
abbrev pub leaving_node : Parts → List StepRecord → NetworkPart → ℕ → ℤ
leaving_node case H part n = leaving case H part.branches n +ℤ through_switches case.switches part.switch_currents n

-- Kirchhoff's current law: what leaves a node of unknown voltage is 0 within the tolerance, and exactly 0 at each node but the
-- root of its group
pub record HoldsCurrentLaw (case : Parts) (H : List StepRecord) (part : NetworkPart) : Type 0 where
  pub within : (n : ℕ) → 1 ≤ n → n ≤ length case.nodes → HasUnknownVoltage case H n
      → unsigned_abs (leaving_node case H part n) ≤ unsigned_abs case.run.tolerance
  pub exact : (n : ℕ) → 1 ≤ n → n ≤ length case.nodes → n ≢ root_next case H n → leaving_node case H part n ≡ pos 0

-- the same in the last record of a run, after the ones before it
abbrev pub KeepsCurrentLaw : Parts → List StepRecord → Type 0
KeepsCurrentLaw case [] = Unit {0}
KeepsCurrentLaw case (r ∷ []) = Unit {0}
KeepsCurrentLaw case (r ∷ s ∷ past) = HoldsCurrentLaw case (s ∷ past) (network_of r)
