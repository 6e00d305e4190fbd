use Rattle.std.proofs.Common.{◌≡◌}
use Rattle.emtp_blocks.specs.Block.{carried, chain_number}
use Rattle.emtp_blocks.proofs.moving.carried.Given as goal

abbrev pub invariant-loop-j : goal.invariant-loop-j
invariant-loop-j l = record {
  sum : l.carried ≡ carried l.state.errors l.state.chain l.j;
  last : l.before ≡ chain_number l.state.chain l.j;
}
