use Rattle.emtp_fix.specs.declared.limit.TheConstants.{LARGEST_VALUE}
use Rattle.std.proofs.Common.{◌≡◌, ◌<◌, ◌≤◌, ℕ, List, All, false, slice_index_or, unsigned_abs}
use Rattle.emtp_elim.specs.Matrix.{item}
use Rattle.emtp_case.specs.StepRecord.{StepRecord}
use Rattle.emtp_blocks.specs.held.Block.{IsKept}
use Rattle.emtp_blocks.specs.held.BlockRows.{AreAccepted, StandsAt, no_kept}
use Rattle.emtp_blocks.proofs.accepting.accept_all.Given as goal

abbrev pub invariant-loop-at : goal.invariant-loop-at
invariant-loop-at l = record {
  fit : All IsKept l.states;
  accepted : (H : List StepRecord) → ((i : ℕ) → StandsAt l.diagram.case.now.parts l.fn.states H i) → AreAccepted l.diagram.case.now.parts l.states l.out H l.values.known.now l.values.solved.now l.at;
  small : (i : ℕ) → i < l.at → unsigned_abs (item l.out i) ≤ LARGEST_VALUE;
  left : (i : ℕ) → l.at ≤ i → slice_index_or l.states i no_kept ≡ slice_index_or l.fn.states i no_kept;
  same : l.moved ≡ false → (i : ℕ) → i < l.at → (slice_index_or l.fn.states i no_kept).limiter ≡ (slice_index_or l.states i no_kept).limiter;
}
