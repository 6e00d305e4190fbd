use Rattle.emtp_machine.specs.History.{history}
use Rattle.emtp_run.proofs.Endings.{run-stopped}
use Rattle.emtp_run.proofs.run.Ran.write.Goals as goal

pub returns-in-Err : goal.returns-in-Err
returns-in-Err g c = run-stopped (history c.args.case.now.parts).end c.in-Err.ensures
