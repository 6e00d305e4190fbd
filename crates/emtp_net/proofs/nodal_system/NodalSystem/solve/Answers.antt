use Rattle.std.proofs.Common.{◌≡◌, ◌∙◌, sym, ap, subst, length, All, unsigned_abs, refl, arith, ◌≤◌}
use Rattle.std.proofs.lemmas.List.{with_items_is}
use Rattle.emtp_elim.specs.Outcome.{outcome}
use Rattle.emtp_net.specs.Part.{voltages_of}
use Rattle.emtp_net.specs.held.Sums.{AreUntied}
use Rattle.emtp_net.specs.System.{matrix, right}
use Rattle.emtp_fix.specs.declared.limit.TheConstants.{LARGEST_VALUE}
use Rattle.emtp_net.proofs.Ending.{solve_ends}
use Rattle.emtp_net.proofs.NodeVoltages.{voltages_small}
use Rattle.emtp_case.proofs.RowsOfNodes.{order_at, order_size, row_node}
use Rattle.emtp_net.proofs.nodal_system.NodalSystem.solve.Goals as goal

pub node_at-requires : goal.node_at-requires
node_at-requires c = omega (arith, c.in-Err.ensures.row, c.requires.size, order_size c.args.network.case.now.parts c.args.network.order.now c.requires.order)

pub returns-in-Err-clause-node : goal.returns-in-Err-clause-node
returns-in-Err-clause-node c = row_node c.args.network.case.now.parts c.args.network.order.now c.node_at.result c.requires.order c.node_at.ensures.low c.node_at.ensures.high

pub returns-in-Err-clause-finds : goal.returns-in-Err-clause-finds
returns-in-Err-clause-finds c = λ H posed.
    let case = c.args.network.case.now.parts in
    let given : c.fill_right.new.out ≡ right case H = c.fill_right.ensures H posed.stands (c.deref.ensures.value ∙ posed.kinds) (c.deref-3.ensures.value ∙ posed.values) in
    let read = c.deref_mut-2.ensures.value ∙ with_items_is c.args.self.now.right c.fill_right.new.out (c.fill_right.auto.out ∙ c.deref_mut.ensures.len) ∙ given in
    let solved : outcome (matrix case H) (right case H) ≡ _ = sym (ap (λ rows. outcome rows c.deref_mut-2.result.now) posed.kept_is ∙ ap (outcome (matrix case H)) read) ∙ c.in-Err.ensures.fault in
    record { is = solve_ends case H c.in-Err.fault c.node_at.result posed.free solved (sym c.node_at.ensures.node ∙ order_at case c.args.network.order.now c.in-Err.fault.row c.requires.order); adds = refl }

pub returns-in-Ok-clause-small : goal.returns-in-Ok-clause-small
returns-in-Ok-clause-small c =
    let case = c.args.network.case.now.parts in
    let whole = with_items_is c.args.self.now.x c.solve.new.x (c.solve.auto.x ∙ c.deref_mut-3.ensures.len) in
    subst (All (λ v. unsigned_abs v ≤ LARGEST_VALUE)) (sym (c.fill_voltages.ensures ∙ ap (voltages_of case) (c.deref-in-Ok.ensures.value ∙ whole))) (voltages_small case c.solve.new.x c.in-Ok.ensures.within)

pub fill_right-requires-clause-ends : goal.fill_right-requires-clause-ends
fill_right-requires-clause-ends c = c.deref-4.ensures.value ∙ c.requires.room.ends

pub fill_right-requires-clause-ties : goal.fill_right-requires-clause-ties
fill_right-requires-clause-ties c = λ off. subst AreUntied (sym c.deref.ensures.value) (c.requires.room.ties off)

pub fill_right-requires-clause-kinds : goal.fill_right-requires-clause-kinds
fill_right-requires-clause-kinds c = ap length c.deref.ensures.value ∙ c.requires.room.kinds

pub fill_right-requires-clause-places : goal.fill_right-requires-clause-places
fill_right-requires-clause-places c = c.deref-2.ensures.value ∙ c.requires.room.places

pub fill_right-requires-clause-values : goal.fill_right-requires-clause-values
fill_right-requires-clause-values c = ap length c.deref-3.ensures.value ∙ c.requires.room.values

pub fill_right-requires-clause-out : goal.fill_right-requires-clause-out
fill_right-requires-clause-out c = ap length c.deref_mut.ensures.value ∙ c.requires.room.right

pub solve-requires-clause-all : goal.solve-requires-clause-all
solve-requires-clause-all c = c.requires.all ∙ sym c.requires.size

pub solve-requires-clause-rhs : goal.solve-requires-clause-rhs
solve-requires-clause-rhs c = ap length (c.deref_mut-2.ensures.value ∙ with_items_is c.args.self.now.right c.fill_right.new.out (c.fill_right.auto.out ∙ c.deref_mut.ensures.len)) ∙ c.fill_right.auto.out ∙ ap length c.deref_mut.ensures.value ∙ c.requires.room.right ∙ sym c.requires.size

pub solve-requires-clause-x : goal.solve-requires-clause-x
solve-requires-clause-x c = ap length c.deref_mut-3.ensures.value ∙ c.requires.room.x ∙ sym c.requires.size

pub returns-in-Ok-clause-finds : goal.returns-in-Ok-clause-finds
returns-in-Ok-clause-finds c = λ H posed.
    let case = c.args.network.case.now.parts in
    let given : c.fill_right.new.out ≡ right case H = c.fill_right.ensures H posed.stands (c.deref.ensures.value ∙ posed.kinds) (c.deref-3.ensures.value ∙ posed.values) in
    let read = c.deref_mut-2.ensures.value ∙ with_items_is c.args.self.now.right c.fill_right.new.out (c.fill_right.auto.out ∙ c.deref_mut.ensures.len) ∙ given in
    let solved : outcome (matrix case H) (right case H) ≡ _ = sym (ap (λ rows. outcome rows c.deref_mut-2.result.now) posed.kept_is ∙ ap (outcome (matrix case H)) read) ∙ c.in-Ok.ensures.solved in
    let whole = with_items_is c.args.self.now.x c.solve.new.x (c.solve.auto.x ∙ c.deref_mut-3.ensures.len) in
    record { free = posed.free; x = c.solve.new.x; solved = solved; are = c.fill_voltages.ensures ∙ ap (voltages_of case) (c.deref-in-Ok.ensures.value ∙ whole) }
