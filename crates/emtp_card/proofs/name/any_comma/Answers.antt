use Rattle.std.proofs.Common.{rules}
use Rattle.emtp_card.proofs.name.any_comma.Goals as goal

pub returns : goal.returns
returns c = search rules
