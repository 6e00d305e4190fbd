use Rattle.std.proofs.Common.{rules, ◌≡◌, ◌∙◌, ◌/◌, ℤ, List, Result, Err, sym, ap, subst, arith}
use Rattle.emtp_case.specs.held.EndNames.{IsNode}
use Rattle.emtp_case.specs.NodeRows.{node_at}
use Rattle.emtp_case.proofs.RowsOfNodes.{order_at, order_size, row_node}
use Rattle.emtp_elim.specs.Outcome.{outcome}
use Rattle.emtp_machine.specs.declared.end.Cause.TheVariants.{Range}
use Rattle.emtp_phasor.specs.Steady.{ending_at, named_ending}
use Rattle.emtp_phasor.specs.declared.ending.Ending.{Ending}
use Rattle.emtp_phasor.proofs.voltages.solve_right.Goals as goal

pub node_at-requires : goal.node_at-requires
node_at-requires c = omega (arith, c.in-Err.ensures.row, c.requires.size, order_size c.args.network.case.now.parts c.args.network.order.now c.requires.network.order_is)

pub returns-in-Ok-clause-solved : goal.returns-in-Ok-clause-solved
returns-in-Ok-clause-solved c = λ rows all.
    let copied : c.copy_from_slice.new.self ≡ c.args.right.now = search rules in
    ap (outcome rows) (sym copied) ∙ c.in-Ok.ensures.solved.outcome_is rows all

pub returns-in-Err-clause-fault : goal.returns-in-Err-clause-fault
returns-in-Err-clause-fault c = λ rows all.
    let case = c.args.network.case.now.parts in
    let row = c.in-Err.fault.row in
    let copied : c.copy_from_slice.new.self ≡ c.args.right.now = search rules in
    let ends = ap (outcome rows) (sym copied) ∙ c.in-Err.ensures.fault.outcome_is rows all in
    let there : c.node_at.result ≡ node_at case (row / 2) = sym c.node_at.ensures.node ∙ order_at case c.args.network.order.now (row / 2) c.requires.network.order_is in
    let named = c.ending_at.ensures ∙ ap (λ n. ending_at n Range) there in
    let Wrong : Ending → Result (List ℤ) Ending = λ e. Err e in
    ap (named_ending case) ends ∙ ap Wrong (sym named)

pub returns-in-Err-clause-node : goal.returns-in-Err-clause-node
returns-in-Err-clause-node c =
    let P : Ending → Type 0 = λ e. IsNode c.args.network.case.now.parts e.node in
    subst P (sym c.ending_at.ensures) (row_node c.args.network.case.now.parts c.args.network.order.now c.node_at.result c.requires.network.order_is c.node_at.ensures.low c.node_at.ensures.high)
