use Rattle.std.proofs.Common.{◌≡◌, ◌∙◌, ◌<◌, ap, length, arith}
use Rattle.emtp_elim.specs.Matrix.{row_of}
use Rattle.emtp_rows.specs.held.Touched.{NodalRows}
use Rattle.emtp_rows.specs.Nodal.{Nodal, nodal_matrix}
use Rattle.emtp_rows.proofs.NodalRows.{length-nodal_matrix, row_is}
use Rattle.emtp_rows.proofs.net_rows.NetRowsRows.row.Goals as goal

pub fill_row-requires-clause-row : goal.fill_row-requires-clause-row
fill_row-requires-clause-row c =
    let size : length c.self.inside.case.now.parts.nodes ≡ length c.args.self.now.nodal.case.nodes = ap (λ (s : NodalRows). length s.nodal.case.nodes) c.self.view_is in
    omega (arith, size, length-nodal_matrix c.args.self.now.nodal, c.requires.index, c.deref.ensures.len, c.self.invariant.rows_count)

pub fill_row-requires-clause-out : goal.fill_row-requires-clause-out
fill_row-requires-clause-out c =
    let size : length c.self.inside.case.now.parts.nodes ≡ length c.args.self.now.nodal.case.nodes = ap (λ (s : NodalRows). length s.nodal.case.nodes) c.self.view_is in
    omega (arith, size, length-nodal_matrix c.args.self.now.nodal, c.requires.size, c.deref.ensures.len, c.self.invariant.rows_count)

pub returns : goal.returns
returns c =
    let seen : Nodal = record { case = c.self.inside.case.now.parts; own = c.self.inside.own.items; coupling = c.self.inside.coupling.items; kinds = c.self.inside.kinds.items } in
    let same : seen ≡ c.args.self.now.nodal = ap (λ (s : NodalRows). s.nodal) c.self.view_is in
    let size : length seen.case.nodes ≡ length c.args.self.now.nodal.case.nodes = ap (λ (s : Nodal). length s.case.nodes) same in
    let inside : c.args.i < length seen.case.nodes = omega (arith, size, length-nodal_matrix c.args.self.now.nodal, c.requires.index) in
    let long : length c.fill_row.new.out ≡ length seen.case.nodes = omega (arith, size, length-nodal_matrix c.args.self.now.nodal, c.requires.size, c.fill_row.auto.out) in
    let filled = rw (c.deref.ensures.value, c.deref-2.ensures.value, c.deref-3.ensures.value, c.deref-4.ensures.value) at c.fill_row.ensures in
    let is = row_is seen c.self.inside.rows.items c.args.i c.fill_row.new.out c.self.inside.case.now.fits.draft.network c.self.invariant.terms c.self.invariant.rows_count inside long (λ j below. filled j (omega (arith, below, c.fill_row.auto.out))) in
    is ∙ ap (λ (s : Nodal). row_of (nodal_matrix s) c.args.i) same
