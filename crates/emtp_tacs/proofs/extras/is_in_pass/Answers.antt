use Rattle.std.proofs.Common.{rules}
use Rattle.emtp_tacs.proofs.extras.is_in_pass.Goals as goal

pub returns-in-Inside : goal.returns-in-Inside
returns-in-Inside c = search rules
