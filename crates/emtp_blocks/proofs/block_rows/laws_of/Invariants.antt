use Rattle.std.proofs.Common.{◌≡◌, All, length}
use Rattle.emtp_blocks.specs.held.Block.{IsLaw}
use Rattle.emtp_blocks.specs.held.BlockRows.{AreLaws}
use Rattle.emtp_blocks.proofs.block_rows.laws_of.Given as goal

abbrev pub invariant-loop-at : goal.invariant-loop-at
invariant-loop-at l = record {
  each : length l.laws.items ≡ l.at;
  are : AreLaws l.case.parts l.laws.items l.at;
  fit : All IsLaw l.laws.items;
}
