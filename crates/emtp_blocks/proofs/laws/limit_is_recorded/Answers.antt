use Rattle.emtp_blocks.proofs.Limiters.{recorded_high, recorded_low}
use Rattle.emtp_blocks.proofs.laws.limit_is_recorded.Goals as goal

pub returns-clause-high : goal.returns-clause-high
returns-clause-high c = recorded_high

pub returns-clause-low : goal.returns-clause-low
returns-clause-low c = recorded_low
