use Rattle.std.proofs.Common.{rules}
use Rattle.emtp_blocks.proofs.inputs.inside.Goals as goal

pub returns-after-j-at-clause-value : goal.returns-after-j-at-clause-value
returns-after-j-at-clause-value c = search rules
