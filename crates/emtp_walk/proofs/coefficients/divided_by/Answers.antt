use Rattle.std.proofs.Common.{rules}
use Rattle.emtp_walk.proofs.coefficients.divided_by.Goals as goal

pub returns-in-Some : goal.returns-in-Some
returns-in-Some c = search rules
