-- Which channels of the record are states.
use Rattle.emtp_case.specs.declared.channel.Channel.{Channel}
use Rattle.emtp_case.specs.declared.channel.Channel.TheVariants.{BranchCurrent, BranchVoltage, SwitchCurrent as CurrentChannel, NodeVoltage as NodeChannel, Tacs as OfTacs, Status, SwitchVoltage}
use Rattle.std.specs.Prelude.{Bool, false, true}

-- a channel of a switch's state; every other is analog
abbrev pub is_status : Channel → Bool
is_status (NodeChannel node) = false
is_status (BranchCurrent branch) = false
is_status (BranchVoltage branch) = false
is_status (CurrentChannel switch) = false
is_status (SwitchVoltage switch) = false
is_status (OfTacs var) = false
is_status (Status switch) = true
