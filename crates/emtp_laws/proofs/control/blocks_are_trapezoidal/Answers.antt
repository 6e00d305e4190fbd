use Rattle.emtp_laws.proofs.TrapezoidalBlocks.{each_number_rises}
use Rattle.emtp_laws.proofs.control.blocks_are_trapezoidal.Goals as goal

pub returns : goal.returns
returns c = each_number_rises
