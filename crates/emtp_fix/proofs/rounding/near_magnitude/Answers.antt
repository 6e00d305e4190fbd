use Rattle.std.proofs.Common.{◌+◌, ◌/◌, arith}
use Rattle.std.proofs.Common.{sym}
use Rattle.emtp_fix.proofs.Nearest.{near_abs_is}
use Rattle.emtp_fix.proofs.rounding.near_magnitude.Goals as goal

pub returns-then-left-b-clause-value : goal.returns-then-left-b-clause-value
returns-then-left-b-clause-value c =
    sym (near_abs_is c.args.a c.args.b (c.args.a / c.args.b + 1) (omega arith) (omega arith))

pub returns-else-left-b-clause-value : goal.returns-else-left-b-clause-value
returns-else-left-b-clause-value c = sym (near_abs_is c.args.a c.args.b (c.args.a / c.args.b) (omega arith) (omega arith))
