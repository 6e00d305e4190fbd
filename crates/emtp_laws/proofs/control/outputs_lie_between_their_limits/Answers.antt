use Rattle.emtp_laws.proofs.LimitersOfRuns.{run_within}
use Rattle.emtp_laws.proofs.LimitedOutputs.{limit_there, step_within}
use Rattle.emtp_laws.proofs.control.outputs_lie_between_their_limits.Goals as goal

pub returns-clause-output : goal.returns-clause-output
returns-clause-output c = step_within c.args.case.now.parts

pub returns-clause-limiter : goal.returns-clause-limiter
returns-clause-limiter c = limit_there c.args.case.now.parts.run.dt

pub returns-clause-run : goal.returns-clause-run
returns-clause-run c = run_within c.args.case.now.parts
