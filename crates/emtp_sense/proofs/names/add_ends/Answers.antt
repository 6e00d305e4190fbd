use Rattle.std.proofs.Common.{rules}
use Rattle.emtp_sense.proofs.names.add_ends.Goals as goal

pub returns-clause-ok : goal.returns-clause-ok
returns-clause-ok c = search rules
