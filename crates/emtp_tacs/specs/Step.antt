-- One step of the control: its cards in their order, each from what the names read at its turn, up to the first fault. First
-- come the variables that every case has, then the sources, the supplemental cards 99, the blocks all together, and the
-- supplemental cards 88 and 98.
use Rattle.std.specs.Prelude.{ℕ, zero, suc, ℤ, pos, not, if◌then◌else◌, Bool, false, true, List, [], ◌++◌, drop, length, map, slice_get, slice_index_or, slice_set, Option, Some, None, Result, Ok, Err}
use Rattle.emtp_blocks.specs.System.{first_out, matrix, outputs, right, states_after}
use Rattle.emtp_case.specs.StepRecord.{StepRecord, latest}
use Rattle.emtp_case.specs.declared.case.Parts.{Parts}
use Rattle.emtp_case.specs.declared.control.Block.{Block}
use Rattle.emtp_case.specs.declared.control.BlockState.{BlockState}
use Rattle.emtp_case.specs.declared.control.DeviceState.{DeviceState}
use Rattle.emtp_case.specs.declared.control.Extra.{Extra}
use Rattle.emtp_case.specs.declared.control.Extra.TheVariants.{Device as OfDevice, Formula as OfFormula}
use Rattle.emtp_case.specs.declared.control.Formula.{Formula}
use Rattle.emtp_case.specs.declared.control.Group.{Group}
use Rattle.emtp_case.specs.declared.control.Group.TheVariants.{Input, Inside, Output}
use Rattle.emtp_case.specs.declared.source.Shape.{Shape}
use Rattle.emtp_case.specs.declared.source.Shape.TheVariants.{Cosine, NodeVoltage, Pulse, Ramp, Saw, Step, SwitchCurrent, SwitchStatus, Tacs}
use Rattle.emtp_case.specs.declared.source.Source.{Source}
use Rattle.emtp_devices.specs.Device.{next_state}
use Rattle.emtp_devices.specs.Devices.{states_of}
use Rattle.emtp_elim.specs.Matrix.{item}
use Rattle.emtp_elim.specs.Outcome.{outcome}
use Rattle.emtp_elim.specs.declared.fault.PlainFault.{PlainFault}
use Rattle.emtp_elim.specs.declared.fault.PlainFault.TheVariants.{NoMemory, Row, Solve}
use Rattle.emtp_elim.specs.declared.fault.RowCause.{RowCause}
use Rattle.emtp_elim.specs.declared.fault.RowCause.TheVariants.{Range, ZeroPivot}
use Rattle.emtp_expr.specs.Value.{value}
use Rattle.emtp_fix.specs.Chain.{◌>>=◌}
use Rattle.emtp_fix.specs.Limit.{in_range}
use Rattle.emtp_fix.specs.declared.limit.TheConstants.{NANO}
use Rattle.emtp_wave.specs.Wave.{value_of}
use Rattle.emtp_tacs.specs.Part.{ControlPart, standing_values}
use Rattle.emtp_tacs.specs.declared.fault.TacsFault.{TacsFault}

-- what the control reads of the network's step: voltages by node number, ground first; currents and states by switch
pub record Measured : Type 0 where
  pub voltages : List ℤ
  pub currents : List ℤ
  pub closed : List Bool

-- What a step has so far: the value that each name reads, and what is kept of the devices. What wasn't computed yet in this
-- step is that of the last record.
pub record SoFar : Type 0 where
  pub values : List ℤ
  pub devices : List DeviceState

-- what the first n cards make of it, each after the ones before it; f has what the card at a place makes
abbrev pub in_turn : (ℕ → SoFar → Result SoFar TacsFault) → ℕ → SoFar → Result SoFar TacsFault
in_turn f zero s = Ok s
in_turn f (suc n) s = in_turn f n s >>= f n

-- a variable that is out of range
abbrev pub range_fault : ℕ → TacsFault
range_fault var = record { var = var; pivot = false }

-- the value of a variable, where it is in range
abbrev pub written : ℕ → SoFar → Option ℤ → Result SoFar TacsFault
written var s None = Err (range_fault var)
written var s (Some y) = Ok (record s { values = slice_set s.values var y })

-- the values at the start of a step
abbrev pub starting : Parts → List StepRecord → SoFar
starting case H = record {
  values = standing_values case.run (length H) ++ drop 6 (latest H).values;
  devices = (latest H).devices;
}

-- ---- sources

-- the value of a source: measured in the network, or by the time
abbrev pub source_value : Parts → ℕ → Measured → Source → Shape → ℤ
source_value case step m x (NodeVoltage node) = item m.voltages node
source_value case step m x (SwitchCurrent switch) = item m.currents switch
source_value case step m x (SwitchStatus switch) = if slice_index_or m.closed switch false then NANO else pos 0
source_value case step m x Step = value_of case.run [] x step
source_value case step m x (Ramp rise) = value_of case.run [] x step
source_value case step m x (Cosine freq phase) = value_of case.run [] x step
source_value case step m x (Tacs var) = value_of case.run [] x step
source_value case step m x (Pulse period width) = value_of case.run [] x step
source_value case step m x (Saw period) = value_of case.run [] x step

abbrev pub source_by : Parts → ℕ → Measured → SoFar → Option Source → Result SoFar TacsFault
source_by case step m s None = Ok s
source_by case step m s (Some x) = written x.node s (in_range (source_value case step m x x.shape))

abbrev pub source_at : Parts → ℕ → Measured → ℕ → SoFar → Result SoFar TacsFault
source_at case step m n s = source_by case step m s (slice_get case.tacs_sources n)

abbrev pub sources : Parts → ℕ → Measured → SoFar → Result SoFar TacsFault
sources case step m s = in_turn (source_at case step m) (length case.tacs_sources) s

-- ---- supplemental cards

-- the value of a formula, from what its names read; none where a number on the way is out of range
abbrev pub formula_value : List ℤ → Formula → Option ℤ
formula_value values x = value (map (item values) x.vars) x.expr

-- the next state of the device at place n, and its output as the value of its variable
abbrev pub device_by : ℕ → ℕ → SoFar → Option DeviceState → Result SoFar TacsFault
device_by n var s None = Err (range_fault var)
device_by n var s (Some d) = Ok (record { values = slice_set s.values var d.output; devices = slice_set s.devices n d })

abbrev pub extra_of : Parts → List StepRecord → ℕ → SoFar → Extra → Result SoFar TacsFault
extra_of case H n s (OfFormula x) = written x.var s (formula_value s.values x)
extra_of case H n s (OfDevice x) = device_by n x.var s (next_state case x (length H) s.values (states_of n H))

abbrev pub group_of : Extra → Group
group_of (OfDevice x) = x.group
group_of (OfFormula x) = x.group

-- the cards 99 belong to the pass before the blocks, the cards 88 and 98 to that after them
abbrev pub is_in_pass : Bool → Group → Bool
is_in_pass early Input = early
is_in_pass early Inside = not early
is_in_pass early Output = not early

abbrev pub extra_by : Parts → List StepRecord → Bool → ℕ → SoFar → Option Extra → Result SoFar TacsFault
extra_by case H early n s None = Ok s
extra_by case H early n s (Some e) = if is_in_pass early (group_of e) then extra_of case H n s e else Ok s

abbrev pub extra_at : Parts → List StepRecord → Bool → ℕ → SoFar → Result SoFar TacsFault
extra_at case H early n s = extra_by case H early n s (slice_get case.extras n)

-- one pass over the supplemental cards
abbrev pub extras : Parts → List StepRecord → Bool → SoFar → Result SoFar TacsFault
extras case H early s = in_turn (extra_at case H early) (length case.extras) s

-- ---- blocks

-- the variable of a block
abbrev pub block_var : Parts → ℕ → ℕ
block_var case i = slice_index_or (map (λ (b : Block). b.var) case.blocks) i 0

abbrev pub is_pivot : RowCause → Bool
is_pivot Range = false
is_pivot ZeroPivot = true

-- a fault of the elimination is named by its row's block; `outcome` never lacks memory
abbrev pub system_fault : Parts → PlainFault → TacsFault
system_fault case (Row fault) = record { var = block_var case fault.row; pivot = is_pivot fault.cause }
system_fault case (Solve fault) = range_fault (block_var case fault.row)
system_fault case NoMemory = range_fault 0

-- the first n outputs ys of the blocks, each at its variable
abbrev pub with_outputs : Parts → List ℤ → ℕ → List ℤ → List ℤ
with_outputs case ys zero values = values
with_outputs case ys (suc n) values = slice_set (with_outputs case ys n values) (block_var case n) (item ys n)

-- the values with the outputs of the blocks, and what the next record keeps of the blocks
pub record Solved : Type 0 where
  pub values : List ℤ
  pub blocks : List BlockState

-- the blocks take the solved outputs xs, or the first of them is out of range
abbrev pub accepted : Parts → List StepRecord → List ℤ → List ℤ → Option ℕ → Result Solved TacsFault
accepted case H known xs (Some i) = Err (range_fault (block_var case i))
accepted case H known xs None =
    Ok (record {
      values = with_outputs case (outputs case H known xs) (length case.blocks) known;
      blocks = states_after case H known xs;
    })

abbrev pub solved_by : Parts → List StepRecord → List ℤ → Result (List ℤ) PlainFault → Result Solved TacsFault
solved_by case H known (Err fault) = Err (system_fault case fault)
solved_by case H known (Ok xs) = accepted case H known xs (first_out case H known xs)

-- the blocks, all together, from what is known before them: their matrix is built anew and eliminated from its first row
abbrev pub blocks : Parts → List StepRecord → List ℤ → Result Solved TacsFault
blocks case H known = solved_by case H known (outcome (matrix case H) (right case H known))

-- ---- the step

-- what is known before the blocks
abbrev pub known_before : Parts → List StepRecord → Measured → Result SoFar TacsFault
known_before case H m = sources case (length H) m (starting case H) >>= extras case H true

-- what the cards after the blocks make of it
abbrev pub completed : Parts → List StepRecord → SoFar → Solved → Result ControlPart TacsFault
completed case H known solved =
    extras case H false (record known { values = solved.values }) >>=
    (λ last. Ok (record { values = last.values; blocks = solved.blocks; devices = last.devices }))

-- the control's part of the next record, or the first fault
unfoldable pub control_step : Parts → List StepRecord → Measured → Result ControlPart TacsFault
control_step case H m = do
  known ← known_before case H m
  solved ← blocks case H known.values
  completed case H known solved
