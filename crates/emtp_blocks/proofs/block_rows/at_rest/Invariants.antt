use Rattle.std.proofs.Common.{◌≡◌, All, length}
use Rattle.emtp_blocks.specs.held.BlockRows.{IsAtRest}
use Rattle.emtp_blocks.proofs.block_rows.at_rest.Given as goal

abbrev pub invariant-loop-at : goal.invariant-loop-at
invariant-loop-at l = record {
  each : length l.states.items ≡ l._at;
  rest : All IsAtRest l.states.items;
}
