use Rattle.std.proofs.Common.{rules}
use Rattle.emtp_switch.proofs.bridges.watch.Goals as goal

pub returns-then-far-clause-tied : goal.returns-then-far-clause-tied
returns-then-far-clause-tied c = search rules
