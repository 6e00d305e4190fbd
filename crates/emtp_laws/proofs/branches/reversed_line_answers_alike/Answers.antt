use Rattle.emtp_line.specs.Mode.{mode_of_line}
use Rattle.emtp_laws.proofs.LineWaves.{line_reversed}
use Rattle.emtp_laws.proofs.branches.reversed_line_answers_alike.Goals as goal

pub returns : goal.returns
returns c = λ x past v w. line_reversed (mode_of_line c.args.case.now.parts.run.dt x) past v w
