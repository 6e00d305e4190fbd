use Rattle.std.proofs.Common.{◌≡◌, ◌∙◌, sym, subst, FitsSigned, to_z, of_z, refl, rules, arith}
use mir.Syntax.{w128}
use Rattle.std.proofs.lemmas.Int.{to_z-of_z}
use Rattle.emtp_net.specs.Part.{states_at}
use Rattle.emtp_net.specs.held.Sums.{AreUntied}
use Rattle.emtp_net.proofs.Ending.{residual_ends}
use Rattle.emtp_case.proofs.RowsOfNodes.{order_at, order_size, row_node}
use Rattle.emtp_net.proofs.nodal_system.NodalSystem.judge.Goals as goal

pub judge-requires-clause-ties : goal.judge-requires-clause-ties
judge-requires-clause-ties c = λ off. subst AreUntied (sym c.deref.ensures.value) (c.requires.room.ties off)

pub node_at-requires : goal.node_at-requires
node_at-requires c = omega (arith, c.in-Some.ensures.there, order_size c.args.case.now.parts c.args.order.now c.requires.order)

pub returns-in-Some-clause-node : goal.returns-in-Some-clause-node
returns-in-Some-clause-node c =
    let fits : FitsSigned w128 c.in-Some.residual = search rules in
    let wide : to_z w128 (of_z w128 c.in-Some.residual) ≡ c.in-Some.residual = to_z-of_z w128 c.in-Some.residual fits in
    record { is_node = row_node c.args.case.now.parts c.args.order.now c.node_at.result c.requires.order c.node_at.ensures.low c.node_at.ensures.high; magnitude = rw wide c.in-Some.ensures.magnitude }

pub returns-in-None-clause-judges : goal.returns-in-None-clause-judges
returns-in-None-clause-judges c = λ H vs currents left has kinds.
    c.in-None.ensures.judges H (states_at c.args.case.now.parts H vs) (c.deref.ensures.value ∙ kinds) (c.deref_mut.ensures.value ∙ left.leaving)

pub returns-in-Some-clause-judges : goal.returns-in-Some-clause-judges
returns-in-Some-clause-judges c = λ H vs currents left has kinds.
    let case = c.args.case.now.parts in
    let fits : FitsSigned w128 c.in-Some.residual = search rules in
    let wide : to_z w128 (of_z w128 c.in-Some.residual) ≡ c.in-Some.residual = to_z-of_z w128 c.in-Some.residual fits in
    let above = c.in-Some.ensures.judges H (states_at case H vs) (c.deref.ensures.value ∙ kinds) (c.deref_mut.ensures.value ∙ left.leaving) in
    record {
      is = residual_ends case H vs c.in-Some.row c.node_at.result _ left.voltages left.in_range has.within above.0 (sym c.node_at.ensures.node ∙ order_at case c.args.order.now c.in-Some.row c.requires.order) (wide ∙ above.1);
      adds = refl;
    }
