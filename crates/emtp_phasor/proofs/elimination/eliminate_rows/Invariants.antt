use Rattle.std.proofs.Common.{◌≡◌, ◌*◌, length}
use Rattle.emtp_elim.specs.held.Finished.{AreFinished}
use Rattle.emtp_elim.specs.held.WorkRow.{IsClearRow}
use Rattle.emtp_phasor.specs.Doubled.{doubled_matrix}
use Rattle.emtp_phasor.specs.held.SteadyNetwork.{doubled_of}
use Rattle.emtp_phasor.proofs.elimination.eliminate_rows.Given as goal

abbrev pub invariant-loop-row : goal.invariant-loop-row
invariant-loop-row g l = record {
  size : l.done.size ≡ 2 * length l.network.case.now.parts.nodes;
  count : length l.done.rows ≡ l.row;
  finished : AreFinished (doubled_matrix (doubled_of l.network)) l.done.rows;
  clear : IsClearRow (2 * length l.network.case.now.parts.nodes) l.work;
}
