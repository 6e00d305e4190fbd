use Rattle.std.proofs.Common.{rules}
use Rattle.emtp_machine.proofs.controlled.ControlledNetwork.redone.Goals as goal

pub returns : goal.returns
returns c = search rules
