use Rattle.emtp_elim.specs.held.Stored.{Packs}
use Rattle.emtp_elim.proofs.storing.pack.Given as goal

abbrev pub invariant-loop-j : goal.invariant-loop-j
invariant-loop-j l = Packs l.work l.from l.j l.fn.columns l.columns l.fn.values l.values l.first l.at
