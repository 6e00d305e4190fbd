use Rattle.emtp_laws.proofs.ReversedPhases.{phases_reversed}
use Rattle.emtp_laws.proofs.branches.reversed_three_phase_line_answers_alike.Goals as goal

pub returns : goal.returns
returns c = phases_reversed
