use Rattle.std.proofs.Common.{◌≡◌, ◌<◌, ℕ, List, length, slice_get}
use Rattle.emtp_case.specs.StepRecord.{StepRecord}
use Rattle.emtp_elim.specs.Matrix.{item}
use Rattle.emtp_net.specs.held.Branches.{StandsFor}
use Rattle.emtp_net.specs.System.{conductance_by}
use Rattle.emtp_rows.specs.held.Touched.{Touches}
use Rattle.emtp_net.proofs.factor.set_all_conductances.Given as goal

abbrev pub invariant-loop-at : goal.invariant-loop-at
invariant-loop-at l = record {
  touched : Touches l.fn.rows l.rows;
  rest : l.rows.nodal ≡ record l.fn.rows.nodal { own = l.rows.nodal.own };
  room : length l.rows.nodal.own ≡ length l.case.parts.branches;
  set : (H : List StepRecord) → StandsFor l.branches H → (b : ℕ) → b < l.at → item l.rows.nodal.own b ≡ conductance_by l.case.parts H b (slice_get l.case.parts.branches b);
}
