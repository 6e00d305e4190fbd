use Rattle.std.proofs.Common.{rules}
use Rattle.emtp_taccards.proofs.device_card.needs_d.Goals as goal

pub returns-in_default : goal.returns-in_default
returns-in_default c = search rules
