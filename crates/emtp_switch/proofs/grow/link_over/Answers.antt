use Rattle.std.proofs.Common.{rules}
use Rattle.emtp_switch.proofs.grow.link_over.Goals as goal

pub returns-then-from_reached-clause-leaf : goal.returns-then-from_reached-clause-leaf
returns-then-from_reached-clause-leaf c = search rules

pub returns-then-from_reached-clause-near : goal.returns-then-from_reached-clause-near
returns-then-from_reached-clause-near c = search rules

pub returns-then-from_reached-clause-only : goal.returns-then-from_reached-clause-only
returns-then-from_reached-clause-only c = search rules

pub returns-then-from_reached-clause-row : goal.returns-then-from_reached-clause-row
returns-then-from_reached-clause-row c = search rules
