use Rattle.std.proofs.Common.{◌∙◌, sym, ap, subst, [], ◌∷◌, pos, length}
use Rattle.emtp_elim.specs.held.Rows.{IsLawful}
use Rattle.emtp_case.specs.declared.control.Block.{Block}
use Rattle.emtp_case.specs.declared.control.Bound.TheVariants.{None as NoBound}
use Rattle.emtp_blocks.specs.held.BlockRows.{Blocking, limiters_kept, rows_of_blocks}
use Rattle.emtp_blocks.proofs.Matrices.{length-control_matrix, control_lawful}
use Rattle.emtp_blocks.proofs.block_rows.BlockRowsRows.size.Goals as goal

no_card : Block
no_card = record { line = 0; var = 0; order = 0; inputs = []; gain = pos 0; top = []; bottom = []; low = NoBound; high = NoBound }

pub returns-clause-size : goal.returns-clause-size
returns-clause-size c =
    let size = ap (λ (s : Blocking). length s.case.blocks) c.self.view_is in
    c.len.ensures ∙ size ∙ sym (length-control_matrix c.args.self.now.case (limiters_kept c.args.self.now.states))

pub returns-clause-law : goal.returns-clause-law
returns-clause-law c =
    let seen : Blocking = record { case = c.self.inside.case.now.parts; states = c.self.inside.states.items; moved = c.self.inside.moved; capacities = c.self.inside.states.cap ∷ c.self.inside.out.cap ∷ [] } in
    let law = control_lawful seen.case (limiters_kept seen.states) no_card c.self.inside.case.now.fits in
    let P : Blocking → Type 0 = λ s. IsLawful (rows_of_blocks s) 0 in
    subst P c.self.view_is law
