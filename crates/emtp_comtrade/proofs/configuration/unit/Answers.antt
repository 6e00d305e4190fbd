use Rattle.std.proofs.Common.{rules}
use Rattle.emtp_comtrade.proofs.configuration.unit.Goals as goal

pub returns-in-BranchCurrent-clause-unit : goal.returns-in-BranchCurrent-clause-unit
returns-in-BranchCurrent-clause-unit c = search rules
