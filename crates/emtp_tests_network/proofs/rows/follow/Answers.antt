use Rattle.std.proofs.Common.{◌∙◌, ◌≤◌, sym, ap, length, take, arith}
use Rattle.std.proofs.Math.Nat.{min-le_left, min-le_right}
use Rattle.emtp_rows.specs.Nodal.{Nodal, nodal_matrix}
use Rattle.emtp_rows.specs.held.Touched.{NodalRows}
use Rattle.emtp_rows.proofs.NodalRows.{length-nodal_matrix}
use Rattle.emtp_rows.proofs.Touching.{stands_untouched}
use Rattle.emtp_tests_network.proofs.rows.follow.Goals as goal

pub changed_from-first-requires-clause-size : goal.changed_from-first-requires-clause-size
changed_from-first-requires-clause-size g c =
    let old = c.args.rows.now.nodal in
    let new = c.take_touched.new.self.nodal in
    let stays = ap (λ (s : NodalRows). length s.nodal.case.nodes) c.take_touched.ensures.rest ∙ ap (λ (s : Nodal). length s.case.nodes) c.set_conductance.ensures.nodal in
    c.requires.size ∙ length-nodal_matrix old ∙ sym (length-nodal_matrix new ∙ stays)

pub changed_from-first-requires-clause-before : goal.changed_from-first-requires-clause-before
changed_from-first-requires-clause-before g c =
    let mid = c.set_conductance.new.self in
    let good = c.args.kept.now.rows in
    let n = c.min-from.result in
    let stands = stands_untouched c.args.rows.now mid good c.set_conductance.ensures.touched c.requires.stands in
    let first : n ≤ mid.touched = omega (arith, c.min-from.ensures, min-le_left c.take_touched.result c.good.result, c.take_touched.ensures.first) in
    let there : n ≤ length good = omega (arith, c.min-from.ensures, min-le_right c.take_touched.result c.good.result, c.good.ensures.count) in
    ap (λ (s : NodalRows). take n (nodal_matrix s.nodal)) c.take_touched.ensures.rest ∙ stands n first there

pub update_from-requires-clause-size : goal.update_from-requires-clause-size
update_from-requires-clause-size g c =
    let old = c.args.rows.now.nodal in
    let new = c.take_touched.new.self.nodal in
    let stays = ap (λ (s : NodalRows). length s.nodal.case.nodes) c.take_touched.ensures.rest ∙ ap (λ (s : Nodal). length s.case.nodes) c.set_conductance.ensures.nodal in
    rw c.changed_from-first.ensures.same (c.requires.size ∙ length-nodal_matrix old ∙ sym (length-nodal_matrix new ∙ stays))
