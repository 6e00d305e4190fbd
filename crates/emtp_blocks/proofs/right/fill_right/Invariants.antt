use Rattle.std.proofs.Common.{◌≡◌, ◌<◌, ◌≤◌, ◌^◌, ℕ, List, slice_get, unsigned_abs}
use Rattle.emtp_case.specs.StepRecord.{StepRecord}
use Rattle.emtp_elim.specs.Matrix.{item}
use Rattle.emtp_blocks.specs.held.BlockRows.{StandsAt}
use Rattle.emtp_blocks.specs.System.{right_by}
use Rattle.emtp_blocks.proofs.right.fill_right.Given as goal

abbrev pub invariant-loop-at : goal.invariant-loop-at
invariant-loop-at l = record {
  done : (H : List StepRecord) → ((i : ℕ) → StandsAt l.diagram.case.now.parts l.states H i) → (i : ℕ) → i < l.at → item l.rhs i ≡ right_by l.diagram.case.now.parts H l.known i (slice_get l.diagram.case.now.parts.blocks i);
  small : (i : ℕ) → i < l.at → unsigned_abs (item l.rhs i) ≤ 10 ^ 36;
}
