-- The values of the channels in a record, and which records are samples.
use Rattle.std.specs.Int.{int_max, int_min}
use Rattle.std.specs.Prelude.{ℕ, ◌%◌, ◌==◌, ℤ, pos, neg_ℤ, ◌-ℤ◌, if◌then◌else◌, List, [], ◌∷◌, ◌++◌, length, map, slice_index}
use Rattle.emtp_case.specs.Branch.{from_of, to_of}
use Rattle.emtp_case.specs.StepRecord.{StepRecord, branch_current_at, is_closed, switch_current_at, switch_state_at, value_at, voltage_at}
use Rattle.emtp_case.specs.declared.case.Parts.{Parts}
use Rattle.emtp_case.specs.declared.channel.Channel.{Channel}
use Rattle.emtp_case.specs.declared.channel.Channel.TheVariants.{BranchCurrent, BranchVoltage, NodeVoltage, Status, SwitchCurrent, SwitchVoltage, Tacs}
use Rattle.emtp_case.specs.declared.switch.Switch.{Switch}
use Rattle.emtp_fix.specs.declared.limit.TheConstants.{LARGEST_VALUE}

-- a number held within the range of voltages, its sign kept
abbrev pub within_range : ℤ → ℤ
within_range x = int_max (neg_ℤ (pos LARGEST_VALUE)) (int_min x (pos LARGEST_VALUE))

-- the voltage from one node to another
abbrev pub voltage_between : StepRecord → ℕ → ℕ → ℤ
voltage_between r a b = within_range (voltage_at a r -ℤ voltage_at b r)

abbrev pub branch_voltage_at : Parts → ℕ → StepRecord → ℤ
branch_voltage_at case b r =
    voltage_between r (slice_index (map from_of case.branches) b) (slice_index (map to_of case.branches) b)

abbrev pub switch_voltage_at : Parts → ℕ → StepRecord → ℤ
switch_voltage_at case s r =
    voltage_between r (slice_index (map (λ (x : Switch). x.from) case.switches) s)
    (slice_index (map (λ (x : Switch). x.to) case.switches) s)

-- the value of a channel in a record, and 1 for a closed switch
abbrev pub channel_value : Parts → StepRecord → Channel → ℤ
channel_value case r (NodeVoltage n) = voltage_at n r
channel_value case r (BranchCurrent b) = branch_current_at b r
channel_value case r (BranchVoltage b) = branch_voltage_at case b r
channel_value case r (SwitchCurrent s) = switch_current_at s r
channel_value case r (SwitchVoltage s) = switch_voltage_at case s r
channel_value case r (Tacs v) = value_at v r
channel_value case r (Status s) = if is_closed (switch_state_at s r) then pos 1 else pos 0

-- the values of all channels in a record: one sample
abbrev pub sample_of : Parts → StepRecord → List ℤ
sample_of case r = map (channel_value case r) case.channels

-- each every-th record from rest on is a sample, of these records newest first; the samples stand oldest first
unfoldable pub samples_in : Parts → List StepRecord → List (List ℤ)
samples_in case [] = []
samples_in case (r ∷ past) =
    if length past % case.run.every == 0 then samples_in case past ++ sample_of case r ∷ [] else samples_in case past
