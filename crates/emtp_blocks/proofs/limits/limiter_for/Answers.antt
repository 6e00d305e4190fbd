use Rattle.std.proofs.Common.{rules}
use Rattle.emtp_blocks.proofs.limits.limiter_for.Goals as goal

pub returns-then-is_below : goal.returns-then-is_below
returns-then-is_below c = search rules
