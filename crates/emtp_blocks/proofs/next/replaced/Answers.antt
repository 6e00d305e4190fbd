use Rattle.std.proofs.Common.{rules}
use Rattle.emtp_blocks.proofs.next.replaced.Goals as goal

pub returns-then-order-ne0-clause-value : goal.returns-then-order-ne0-clause-value
returns-then-order-ne0-clause-value c = search rules
