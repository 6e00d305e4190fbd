-- What a channel of a case holds: the place that it names exists. No clause of the program reaches it.
use Rattle.emtp_case.specs.held.Sizes.{Sizes}
use Rattle.emtp_case.specs.declared.channel.Channel.{Channel}
use Rattle.emtp_case.specs.declared.channel.Channel.TheVariants.{BranchCurrent, BranchVoltage, SwitchCurrent as CurrentChannel, NodeVoltage as NodeChannel, Tacs as OfTacs, Status, SwitchVoltage}
use Rattle.std.specs.Prelude.{◌<◌, ◌≤◌}

-- a channel among so many records
abbrev pub IsChannel : Sizes → Channel → Type 0
IsChannel n (NodeChannel node) = (1 ≤ node) × (node ≤ n.nodes)
IsChannel n (BranchCurrent b) = b < n.branches
IsChannel n (BranchVoltage b) = b < n.branches
IsChannel n (CurrentChannel s) = s < n.switches
IsChannel n (SwitchVoltage s) = s < n.switches
IsChannel n (OfTacs v) = v < n.vars
IsChannel n (Status s) = s < n.switches
