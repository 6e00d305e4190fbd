use Rattle.emtp_fix.specs.declared.limit.TheConstants.{LARGEST_VALUE}
use Rattle.std.proofs.Common.{◌≡◌, ◌≤◌, ◌*◌, take, unsigned_abs}
use Rattle.emtp_blocks.specs.held.BlockRows.{place_in}
use Rattle.emtp_blocks.specs.System.{input_sum}
use Rattle.emtp_blocks.proofs.inputs.input_sum.Given as goal

abbrev pub invariant-loop-input : goal.invariant-loop-input
invariant-loop-input l = record {
  value : l.sum ≡ input_sum (place_in l.places) l.values.known.now l.values.solved.now l.at l.x (take l.input-index l.inputs);
  small : unsigned_abs l.sum ≤ l.input-index * LARGEST_VALUE;
}
