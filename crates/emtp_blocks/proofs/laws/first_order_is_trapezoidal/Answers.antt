use Rattle.emtp_blocks.proofs.Limiters.{trapezoid}
use Rattle.emtp_blocks.proofs.laws.first_order_is_trapezoidal.Goals as goal

pub returns : goal.returns
returns c = trapezoid
