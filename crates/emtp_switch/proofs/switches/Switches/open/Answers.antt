use Rattle.std.proofs.Common.{◌∙◌, ap, length, pos, refl, subst, sym, arith}
use Rattle.std.proofs.lemmas.List.{get_or-replicate, length-map, length-replicate}
use Rattle.std.proofs.lemmas.Result.{IfOk-from_err}
use Rattle.emtp_case.specs.RowOrder.{Rows}
use Rattle.emtp_fix.specs.Items.{item}
use Rattle.emtp_switch.specs.held.Grouping.{AreGroups}
use Rattle.emtp_switch.specs.held.Plan.{IsPlan}
use Rattle.emtp_switch.proofs.switches.Switches.open.Goals as goal

pub returns-in_err-states : goal.returns-in_err-states
returns-in_err-states c = let err = c.from_residual.ensures.0 in record { case = IfOk-from_err _ _ err; rows = IfOk-from_err _ _ err; stands = IfOk-from_err _ _ err }

pub returns-in_err-before : goal.returns-in_err-before
returns-in_err-before c = let err = c.from_residual-in_err-before.ensures.0 in record { case = IfOk-from_err _ _ err; rows = IfOk-from_err _ _ err; stands = IfOk-from_err _ _ err }

pub returns-in_err-rest : goal.returns-in_err-rest
returns-in_err-rest c = let err = c.from_residual-in_err-rest.ensures.0 in record { case = IfOk-from_err _ _ err; rows = IfOk-from_err _ _ err; stands = IfOk-from_err _ _ err }

pub returns-in_err-flows : goal.returns-in_err-flows
returns-in_err-flows c = let err = c.from_residual-in_err-flows.ensures.0 in record { case = IfOk-from_err _ _ err; rows = IfOk-from_err _ _ err; stands = IfOk-from_err _ _ err }

pub returns-in_err-rows : goal.returns-in_err-rows
returns-in_err-rows c = let err = c.from_residual-in_err-rows.ensures.0 in record { case = IfOk-from_err _ _ err; rows = IfOk-from_err _ _ err; stands = IfOk-from_err _ _ err }

pub returns-in_err-plan : goal.returns-in_err-plan
returns-in_err-plan c = let err = c.from_residual-in_err-plan.ensures.0 in record { case = IfOk-from_err _ _ err; rows = IfOk-from_err _ _ err; stands = IfOk-from_err _ _ err }

pub returns-in_err-groups : goal.returns-in_err-groups
returns-in_err-groups c = let err = c.from_residual-in_err-groups.ensures.0 in record { case = IfOk-from_err _ _ err; rows = IfOk-from_err _ _ err; stands = IfOk-from_err _ _ err }

pub regroup-requires-clause-states : goal.regroup-requires-clause-states
regroup-requires-clause-states c = ap length (c.deref.ensures.value ∙ c.in_ok-states.ensures) ∙ length-map _ _

pub returns-clause-case : goal.returns-clause-case
returns-clause-case c = refl

pub returns-clause-rows : goal.returns-clause-rows
returns-clause-rows c = c.in_ok-rows.ensures

pub invariant_of-result : goal.invariant_of-result
invariant_of-result c =
    let p = c.args.case.now.parts in
    record {
      plan_is = subst (λ (o : Rows). IsPlan p o c.in_ok-plan.plan) (sym c.in_ok-rows.ensures) c.in_ok-plan.ensures;
      groups_are = subst (λ (o : Rows). AreGroups p o c.in_ok-states.states.items c.regroup.new.self) (sym c.in_ok-rows.ensures) (subst (λ states. AreGroups p c.args.order.now states c.regroup.new.self) c.deref.ensures.value c.regroup.ensures.groups);
      states_size = ap length c.in_ok-states.ensures ∙ length-map _ _;
      before_size = ap length c.in_ok-before.ensures ∙ length-replicate _ _ ∙ c.len-count.ensures;
      rest_size = omega (arith, c.in_ok-rest.ensures.len, c.in_ok-rest.rest.ok.0, c.len.ensures);
      flows_size = omega (arith, c.in_ok-flows.ensures.len, c.in_ok-flows.flows.ok.0, c.len-count.ensures);
    }

pub returns-clause-stands : goal.returns-clause-stands
returns-clause-stands c = record {
  states_are = c.in_ok-states.ensures;
  before_are = λ s inside. ap (λ l. item l s) c.in_ok-before.ensures ∙ get_or-replicate c.len-count.result s (pos 0) (pos 0) (omega (arith, inside, ap length c.in_ok-before.ensures, length-replicate c.len-count.result (pos 0)));
}
