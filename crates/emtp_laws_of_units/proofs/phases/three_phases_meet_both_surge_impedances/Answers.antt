use Rattle.emtp_line.specs.Phases.{modes_of}
use Rattle.emtp_laws_of_units.proofs.PhaseImpedances.{end_meets}
use Rattle.emtp_laws_of_units.proofs.phases.three_phases_meet_both_surge_impedances.Goals as goal

pub returns : goal.returns
returns c t v histories = end_meets (modes_of c.args.case.now.parts.run.dt t) v histories
