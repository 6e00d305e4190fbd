use Rattle.std.proofs.Common.{◌≡◌, ◌<◌, ℕ, length}
use Rattle.emtp_elim.specs.Matrix.{item}
use Rattle.emtp_line.specs.Lines as lined
use Rattle.emtp_line.specs.Phases.{modes_of, mutual_conductance}
use Rattle.emtp_net.proofs.factor.set_couplings.Given as goal

abbrev pub invariant-loop-trio : goal.invariant-loop-trio
invariant-loop-trio l = record {
  rest : l.rows.nodal ≡ record l.fn.rows.nodal { coupling = l.rows.nodal.coupling };
  room : length l.rows.nodal.coupling ≡ length l.case.parts.trios;
  set : (t : ℕ) → t < l.trio → item l.rows.nodal.coupling t ≡ mutual_conductance (modes_of l.case.parts.run.dt (lined.trio_of l.case.parts t));
}
