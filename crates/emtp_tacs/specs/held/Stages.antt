-- What the stages of a step leave, one after the other.
use Rattle.std.specs.Prelude.{◌≡◌, ◌≤◌, ◌<◌, ◌+◌, ℕ, ℤ, nat_lt, ◌&&◌, ◌||◌, if◌then◌else◌, Bool, false, true, List, ◌∷◌, length, slice_get, slice_index_or, Option, Some, None, Result, Ok, Err, IfErr, MatchResult, OnOk, vec_capacity}
use Rattle.emtp_case.specs.held.Control.{AreKnown}
use Rattle.emtp_blocks.specs.held.BlockRows.{Blocking, HaveAccepted, rows_of_blocks, StandsFor as BlocksStandFor}
use Rattle.emtp_blocks.specs.System.{matrix, right}
use Rattle.emtp_case.specs.StepRecord.{StepRecord, latest, no_device}
use Rattle.emtp_case.specs.declared.case.Parts.{Parts}
use Rattle.emtp_case.specs.declared.control.Device.{Device}
use Rattle.emtp_case.specs.declared.control.DeviceState.{DeviceState}
use Rattle.emtp_case.specs.declared.control.Extra.{Extra}
use Rattle.emtp_case.specs.declared.control.Extra.TheVariants.{Formula as OfFormula}
use Rattle.emtp_case.specs.declared.control.Formula.{Formula}
use Rattle.emtp_devices.specs.Devices.{states_of}
use Rattle.emtp_devices.specs.held.Devices.{HeldDevices, IsDeviceAt, Moves, StandsAt, StandsFor as DevicesStandFor}
use Rattle.emtp_elim.specs.Outcome.{outcome}
use Rattle.emtp_expr.specs.held.Value.{Evaluates}
use Rattle.emtp_fix.specs.declared.limit.OutOfRange.{OutOfRange}
use Rattle.emtp_tacs.specs.Part.{ControlPart}
use Rattle.emtp_tacs.specs.held.Part.{control_of}
use Rattle.emtp_tacs.specs.Step.{Measured, SoFar, Solved, blocks, extra_of, extras, formula_value, group_of, is_in_pass, known_before, sources}
use Rattle.emtp_tacs.specs.declared.block_system.BlockSystem.{BlockSystem}
use Rattle.emtp_tacs.specs.declared.extras.Pass.{Pass}
use Rattle.emtp_tacs.specs.declared.fault.TacsFault.{TacsFault}
use Rattle.emtp_tacs.specs.declared.measured.Measurements.{Measurements}
use Rattle.emtp_tacs.specs.declared.variables.Variables.{Variables}

-- a fault names a variable of the case
abbrev pub NamesVariable : Parts → TacsFault → Type 0
NamesVariable case fault = fault.var < length case.vars

-- the numbers of the network, as the definitions see them
abbrev pub measured_from : List ℤ → List ℤ → List Bool → Measured
measured_from voltages currents closed = record { voltages = voltages; currents = currents; closed = closed }

abbrev pub measured_by : Measurements → Measured
measured_by m = measured_from m.voltages.now m.currents.now m.closed.now

-- the lists of the network have their lengths
pub record IsMeasured (case : Parts) (m : Measured) : Type 0 where
  pub voltages : length m.voltages ≡ length case.nodes + 1
  pub currents : length m.currents ≡ length case.switches
  pub closed : length m.closed ≡ length case.switches

-- ---- variables

-- the supplemental card at a place is this formula
abbrev pub IsFormulaAt : Parts → ℕ → Formula → Type 0
IsFormulaAt case at x = slice_get case.extras at ≡ Some (OfFormula x)

-- there is room for the values of any formula's names
abbrev pub HasNameRoom : Parts → List ℤ → Type 0
HasNameRoom case names = (at : ℕ) (x : Formula) → IsFormulaAt case at x → length x.vars ≤ length names

-- the variables are those of the case
pub record HoldsVariables (case : Parts) (v : Variables) : Type 0 where
  pub devices : v.devices.case ≡ case
  pub values : AreKnown case v.values.items
  pub names : HasNameRoom case v.names.items

-- the capacities of the lists that a step writes among the variables: the values, the room for names, and the devices'
abbrev pub capacities_of_variables : Variables → List ℕ
capacities_of_variables v = vec_capacity v.values ∷ vec_capacity v.names ∷ v.devices.capacities

-- the variables and the devices stand for the records
pub record VariablesStandFor (case : Parts) (v : Variables) (H : List StepRecord) : Type 0 where
  pub devices : DevicesStandFor v.devices H
  pub devices_count : length (latest H).devices ≡ length case.extras
  pub values : v.values.items ≡ (latest H).values

-- ---- the fold over the cards

-- how a write of values ends, where the devices keep this
abbrev pub so_far_of : Result (Unit {0}) TacsFault → List ℤ → List DeviceState → Result SoFar TacsFault
so_far_of (Ok u) values devices = Ok (record { values = values; devices = devices })
so_far_of (Err fault) values devices = Err fault

-- the sources of a step are written, or the first one out of range is answered, whatever the devices keep
abbrev pub WritesSources : Result (Unit {0}) TacsFault → Parts → ℕ → Measured → List ℤ → List ℤ → Type 0
WritesSources result case step m old new =
    (devices : List DeviceState) → sources case step m (record { values = old; devices = devices }) ≡ so_far_of result new devices

-- a card was computed in this step, once its pass has come to place n: of the later pass all cards of the earlier one were
abbrev pub is_done_by : Bool → ℕ → ℕ → Option Extra → Bool
is_done_by early n at None = false
is_done_by true n at (Some e) = is_in_pass true (group_of e) && nat_lt at n
is_done_by false n at (Some e) = is_in_pass true (group_of e) || nat_lt at n

abbrev pub is_done : Parts → Bool → ℕ → ℕ → Bool
is_done case early n at = is_done_by early n at (slice_get case.extras at)

-- what is kept of a device up to now, newest first
abbrev pub past_of : Bool → List DeviceState → List StepRecord → ℕ → List DeviceState
past_of done devices H at = if done then slice_index_or devices at no_device ∷ states_of at H else states_of at H

-- values and devices are what the step has so far, once a pass has come to place n
pub record IsSoFar (case : Parts) (H : List StepRecord) (early : Bool) (n : ℕ) (values : List ℤ) (held : HeldDevices)
    (s : SoFar) : Type 0 where
  pub values_are : values ≡ s.values
  pub count : length s.devices ≡ length case.extras
  pub devices : (at : ℕ) (x : Device) → IsDeviceAt case at x → StandsAt held at (past_of (is_done case early n at) s.devices H at)

-- a call that goes on to place n answers and leaves what the definition says
abbrev pub Reaches : Result (Unit {0}) TacsFault → Parts → List StepRecord → Bool → ℕ → List ℤ → HeldDevices
    → Result SoFar TacsFault → Type 0
Reaches (Ok u) case H early n values held (Ok s) = IsSoFar case H early n values held s
Reaches (Ok u) case H early n values held (Err fault) = ⊥
Reaches (Err e) case H early n values held (Ok s) = ⊥
Reaches (Err e) case H early n values held (Err fault) = e ≡ fault

-- the same of a whole pass over the supplemental cards
abbrev pub CompletesPass : Result (Unit {0}) TacsFault → Parts → List StepRecord → Bool → Variables
    → Result SoFar TacsFault → Type 0
CompletesPass result case H early v defined = Reaches result case H early (length case.extras) v.values.items v.devices defined

-- what is known before the blocks of a step is computed, from all records for which the variables stood
abbrev pub ComputesKnown : Result (Unit {0}) TacsFault → Parts → ℕ → Measured → Variables → Variables → Type 0
ComputesKnown result case step m old new =
    (H : List StepRecord) → step ≡ length H → VariablesStandFor case old H
    → CompletesPass result case H true new (known_before case H m)

-- the card at a place has this value in a step: a device moves, and a formula lets all devices stay
pub record ComputesValue (result : Result ℤ OutOfRange) (pass : Pass) (at : ℕ) (values : List ℤ)
    (held moved : HeldDevices) : Type 0 where
  pub device : (x : Device) → IsDeviceAt pass.case.now.parts at x → Moves held moved at pass.step values result
  pub formula : (x : Formula) → IsFormulaAt pass.case.now.parts at x → Evaluates result (formula_value values x)
  pub formula_same : (x : Formula) → IsFormulaAt pass.case.now.parts at x → moved ≡ held

-- the card at a place is computed in a step, if it belongs to the pass, from whatever the step has so far
abbrev pub ComputesCard : Result (Unit {0}) TacsFault → Pass → ℕ → List ℤ → List ℤ → HeldDevices → HeldDevices → Type 0
ComputesCard result pass at old new held moved = let case = pass.case.now.parts in
    (H : List StepRecord) (early : Bool) (e : Extra) (s : SoFar) → pass.step ≡ length H → slice_get case.extras at ≡ Some e
    → is_in_pass early (group_of e) ≡ true → IsSoFar case H early at old held s
    → Reaches result case H early (at + 1) new moved (extra_of case H at s e)

-- the cards of a pass are computed in a step, from whatever the step has so far
abbrev pub ComputesCards : Result (Unit {0}) TacsFault → Pass → List ℤ → List ℤ → HeldDevices → HeldDevices → Type 0
ComputesCards result pass old new held moved = let case = pass.case.now.parts in
    (H : List StepRecord) (s : SoFar) → pass.step ≡ length H → IsSoFar case H pass.early 0 old held s
    → Reaches result case H pass.early (length case.extras) new moved (extras case H pass.early s)

abbrev pub ComputesPass : Result (Unit {0}) TacsFault → Pass → Variables → Variables → Type 0
ComputesPass result pass old new = ComputesCards result pass old.values.items new.values.items old.devices new.devices

-- ---- the blocks

-- the lists of the block system have their lengths, and where the factor is current, it is that of the blocks' matrix
pub record HoldsSystem (case : Parts) (s : BlockSystem) : Type 0 where
  pub case_is : s.blocks.case ≡ case
  pub kept_size : s.kept.size ≡ length case.blocks
  pub current : s.current ≡ true → s.kept.rows ≡ rows_of_blocks s.blocks
  pub right : length s.right.items ≡ length case.blocks
  pub x : length s.x.items ≡ length case.blocks

-- the capacities of the lists that a step writes there, but for the factor's: the right side, the outputs, and the blocks'
abbrev pub capacities_of_system : BlockSystem → List ℕ
capacities_of_system s = vec_capacity s.right ∷ vec_capacity s.x ∷ s.blocks.capacities

-- the blocks moved: the values have their outputs, and they stand for the records and any further one that keeps this
pub record HaveMoved (blocks : Blocking) (values : List ℤ) (H : List StepRecord) (s : Solved) : Type 0 where
  pub values_are : values ≡ s.values
  pub stands : (r : StepRecord) → r.blocks ≡ s.blocks → BlocksStandFor blocks (r ∷ H)

abbrev pub Solves : Result (Unit {0}) TacsFault → Blocking → List ℤ → List StepRecord → Result Solved TacsFault → Type 0
Solves (Ok u) blocks values H (Ok s) = HaveMoved blocks values H s
Solves (Ok u) blocks values H (Err fault) = ⊥
Solves (Err e) blocks values H (Ok s) = ⊥
Solves (Err e) blocks values H (Err fault) = e ≡ fault

-- the blocks end with this fault, by what is known before them
abbrev pub EndsBlocks : Parts → List StepRecord → List ℤ → TacsFault → Type 0
EndsBlocks case H known e = blocks case H known ≡ Err e

-- these are the outputs of the blocks before limiters and chains, by what is known before them
abbrev pub IsSolution : Parts → List StepRecord → List ℤ → List ℤ → Type 0
IsSolution case H known xs = outcome (matrix case H) (right case H known) ≡ Ok xs

-- no factor of the blocks is made, whatever is known before them
abbrev pub RefusesFactor : Result (Unit {0}) TacsFault → Parts → BlockSystem → Type 0
RefusesFactor result case old =
    (H : List StepRecord) (known : List ℤ) → BlocksStandFor old.blocks H → IfErr result (EndsBlocks case H known)

-- the outputs are found, from all records for which the blocks stood
abbrev pub FindsOutputs : Result (Unit {0}) TacsFault → Parts → List ℤ → BlockSystem → BlockSystem → Type 0
FindsOutputs result case known old new =
    (H : List StepRecord) → BlocksStandFor old.blocks H
    → MatchResult result (λ u. IsSolution case H known new.x.items) (EndsBlocks case H known)

-- the blocks take their outputs, from all records for which they stood
abbrev pub AcceptsOutputs : Result (Unit {0}) TacsFault → Parts → List ℤ → BlockSystem → BlockSystem → Type 0
AcceptsOutputs result case known old new =
    (H : List StepRecord) → BlocksStandFor old.blocks H
    → MatchResult result (λ u. HaveAccepted new.blocks new.x.items H known old.x.items)
    (λ e. IsSolution case H known old.x.items → EndsBlocks case H known e)

-- the blocks of the step after the records are solved, and the factor is that of their matrix
pub record AreSolved (result : Result (Unit {0}) TacsFault) (case : Parts) (H : List StepRecord)
    (known values : List ℤ) (s : BlockSystem) : Type 0 where
  pub solves : Solves result s.blocks values H (blocks case H known)
  pub kept : OnOk result (s.kept.rows ≡ matrix case H)

abbrev pub SolvesBlocks : Result (Unit {0}) TacsFault → Parts → List ℤ → List ℤ → BlockSystem → BlockSystem → Type 0
SolvesBlocks result case known values old new =
    (H : List StepRecord) → BlocksStandFor old.blocks H → AreSolved result case H known values new

-- ---- the whole step

-- all variables have their values of the next record: variables and blocks stand for the records and any further one with
-- this control part, and the factor is that of the step's matrix
pub record HaveAdvanced (case : Parts) (H : List StepRecord) (variables : Variables) (system : BlockSystem)
    (part : ControlPart) : Type 0 where
  pub variables_stand : (r : StepRecord) → control_of r ≡ part → VariablesStandFor case variables (r ∷ H)
  pub blocks_stand : (r : StepRecord) → control_of r ≡ part → BlocksStandFor system.blocks (r ∷ H)
  pub kept : system.kept.rows ≡ matrix case H

abbrev pub Advances : Result (Unit {0}) TacsFault → Parts → List StepRecord → Variables → BlockSystem
    → Result ControlPart TacsFault → Type 0
Advances (Ok u) case H variables system (Ok part) = HaveAdvanced case H variables system part
Advances (Ok u) case H variables system (Err fault) = ⊥
Advances (Err e) case H variables system (Ok part) = ⊥
Advances (Err e) case H variables system (Err fault) = e ≡ fault
