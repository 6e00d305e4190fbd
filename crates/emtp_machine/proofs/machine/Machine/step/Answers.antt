use Rattle.std.proofs.Common.{rules}
use Rattle.emtp_machine.proofs.machine.Machine.step.Goals as goal

pub advance-requires-clause-running : goal.advance-requires-clause-running
advance-requires-clause-running g c = search rules

pub advance-requires-clause-left : goal.advance-requires-clause-left
advance-requires-clause-left g c = search rules

pub returns-clause-stays : goal.returns-clause-stays
returns-clause-stays g c = search rules
