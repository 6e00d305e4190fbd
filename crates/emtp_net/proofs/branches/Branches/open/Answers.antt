use Rattle.emtp_net.proofs.Resting.{nothing_made}
use Rattle.emtp_net.proofs.branches.Branches.open.Goals as goal

pub returns-clause-same : goal.returns-clause-same
returns-clause-same c = record { lumps = c.in_ok-lumps.ensures.case; lines = c.in_ok-lines.ensures.case; pseudos = c.in_ok-pseudos.ensures.case }

pub returns-clause-rest : goal.returns-clause-rest
returns-clause-rest c = record { lumps = c.in_ok-lumps.ensures.stands; lines = c.in_ok-lines.ensures.stands; pseudos = c.in_ok-pseudos.ensures.stands }

pub returns-in_err-lumps-clause-same : goal.returns-in_err-lumps-clause-same
returns-in_err-lumps-clause-same c = nothing_made _ _ c.from_residual.result c.from_residual.ensures.1

pub returns-in_err-lumps-clause-rest : goal.returns-in_err-lumps-clause-rest
returns-in_err-lumps-clause-rest c = nothing_made _ _ c.from_residual.result c.from_residual.ensures.1

pub returns-in_err-lines-clause-same : goal.returns-in_err-lines-clause-same
returns-in_err-lines-clause-same c = nothing_made _ _ c.from_residual-in_err-lines.result c.from_residual-in_err-lines.ensures.1

pub returns-in_err-lines-clause-rest : goal.returns-in_err-lines-clause-rest
returns-in_err-lines-clause-rest c = nothing_made _ _ c.from_residual-in_err-lines.result c.from_residual-in_err-lines.ensures.1

pub returns-in_err-pseudos-clause-same : goal.returns-in_err-pseudos-clause-same
returns-in_err-pseudos-clause-same c = nothing_made _ _ c.from_residual-in_err-pseudos.result c.from_residual-in_err-pseudos.ensures.1

pub returns-in_err-pseudos-clause-rest : goal.returns-in_err-pseudos-clause-rest
returns-in_err-pseudos-clause-rest c = nothing_made _ _ c.from_residual-in_err-pseudos.result c.from_residual-in_err-pseudos.ensures.1
