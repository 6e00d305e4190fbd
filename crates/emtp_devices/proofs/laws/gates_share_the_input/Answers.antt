use Rattle.emtp_devices.proofs.NextStates.{gates-share}
use Rattle.emtp_devices.proofs.laws.gates_share_the_input.Goals as goal

pub returns : goal.returns
returns c = gates-share
