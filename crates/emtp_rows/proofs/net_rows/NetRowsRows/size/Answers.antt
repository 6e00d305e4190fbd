use Rattle.std.proofs.Common.{◌≡◌, ◌∙◌, sym, ap, subst, length}
use Rattle.emtp_elim.specs.held.Rows.{IsLawful}
use Rattle.emtp_case.specs.RowOrder.{order_of}
use Rattle.emtp_rows.specs.held.Touched.{NodalRows}
use Rattle.emtp_rows.specs.Nodal.{Nodal, nodal_matrix}
use Rattle.emtp_rows.proofs.NodalRows.{length-nodal_matrix, nodal_lawful}
use Rattle.emtp_rows.proofs.net_rows.NetRowsRows.size.Goals as goal

pub returns-clause-size : goal.returns-clause-size
returns-clause-size c =
    let size : length c.self.inside.case.now.parts.nodes ≡ length c.args.self.now.nodal.case.nodes = ap (λ (s : NodalRows). length s.nodal.case.nodes) c.self.view_is in
    c.len.ensures ∙ size ∙ sym (length-nodal_matrix c.args.self.now.nodal)

pub returns-clause-law : goal.returns-clause-law
returns-clause-law c =
    let seen : Nodal = record { case = c.self.inside.case.now.parts; own = c.self.inside.own.items; coupling = c.self.inside.coupling.items; kinds = c.self.inside.kinds.items } in
    let counts = c.self.inside.case.now.fits.draft.counts in
    let law = nodal_lawful seen c.self.inside.fixed c.self.inside.touched c.self.inside.ends.items c.self.inside.rows.items c.self.invariant c.self.inside.case.now.fits.draft.network counts.nodes counts.branches in
    let P : NodalRows → Type 0 = λ s. IsLawful (nodal_matrix s.nodal) (order_of s.nodal.case).fixed in
    subst P c.self.view_is law
