use Rattle.emtp_assess.proofs.Stepping.{rest_count, rest_live}
use Rattle.emtp_assess.proofs.worth.judged_run.Goals as goal

pub judge-judged-requires-clause-live : goal.judge-judged-requires-clause-live
judge-judged-requires-clause-live g c = rest_live c.in_ok-machine.machine c.in_ok-machine.ensures.rest

pub judge-judged-requires-clause-rest : goal.judge-judged-requires-clause-rest
judge-judged-requires-clause-rest g c = rest_count c.in_ok-machine.machine c.in_ok-machine.ensures.rest
