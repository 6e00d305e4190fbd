use Rattle.std.proofs.Common.{◌≡◌, ◌<◌, ◌≤◌, ◌+◌, ◌-ℤ◌, ℕ, pos, length}
use Rattle.emtp_elim.specs.Matrix.{item}
use Rattle.emtp_case.specs.Sums.{sum_below}
use Rattle.emtp_blocks.specs.Block.{carried, chain_number}
use Rattle.emtp_blocks.proofs.next.chain.Given as goal

abbrev pub invariant-loop-j : goal.invariant-loop-j
invariant-loop-j l = record {
  long : 8 ≤ length l.chain;
  so_far : l.carried ≡ carried l.old.errors l.old.chain l.j;
  last : l.before ≡ chain_number l.old.chain l.j;
  added : l.sum ≡ sum_below l.j (item l.errors);
  done : (i : ℕ) → i < l.j → item l.chain i ≡ carried l.old.errors l.old.chain (i + 1) -ℤ sum_below (i + 1) (item l.errors);
  past : (i : ℕ) → l.j ≤ i → item l.chain i ≡ pos 0;
}
