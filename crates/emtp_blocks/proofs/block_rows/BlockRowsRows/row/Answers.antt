use Rattle.std.proofs.Common.{ap, length, arith}
use Rattle.emtp_blocks.specs.held.BlockRows.{Blocking, limiters_kept}
use Rattle.emtp_blocks.proofs.Matrices.{length-control_matrix}
use Rattle.emtp_blocks.proofs.Systems.{diagram_seen}
use Rattle.emtp_blocks.proofs.block_rows.BlockRowsRows.row.Goals as goal

pub fill_block-requires-clause-there : goal.fill_block-requires-clause-there
fill_block-requires-clause-there c =
    let size = ap (λ (s : Blocking). length s.case.blocks) c.self.view_is in
    omega (arith, size, length-control_matrix c.args.self.now.case (limiters_kept c.args.self.now.states), c.requires.index)

pub fill_block-requires-clause-diagram : goal.fill_block-requires-clause-diagram
fill_block-requires-clause-diagram c = diagram_seen c.self.inside.case.now.parts _ _ _ _ c.deref.ensures.value c.deref-2.ensures.value c.self.invariant.diagram

pub fill_block-requires-clause-out : goal.fill_block-requires-clause-out
fill_block-requires-clause-out c =
    let size = ap (λ (s : Blocking). length s.case.blocks) c.self.view_is in
    omega (arith, size, length-control_matrix c.args.self.now.case (limiters_kept c.args.self.now.states), c.requires.size)
