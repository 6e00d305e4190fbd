use Rattle.std.proofs.Common.{◌∙◌, ap, refl, pos, length}
use Rattle.std.proofs.lemmas.List.{length-replicate}
use Rattle.std.proofs.lemmas.List.Elements.{All-weaker}
use Rattle.std.proofs.lemmas.Result.{IfOk-from_err}
use Rattle.emtp_blocks.specs.held.Block.{IsKept}
use Rattle.emtp_blocks.specs.held.BlockRows.{IsAtRest}
use Rattle.emtp_blocks.proofs.Resting.{rest_kept, stands_at_rest}
use Rattle.emtp_blocks.proofs.block_rows.BlockRows.open.Goals as goal

pub invariant_of-result : goal.invariant_of-result
invariant_of-result c = record {
  diagram = record {
    places_are = c.in_ok-places.ensures;
    law_each = c.in_ok-laws.ensures.each;
    laws_are = c.in_ok-laws.ensures.are;
    laws_fit = c.in_ok-laws.ensures.fit;
  };
  state_each = c.in_ok-states.ensures.each ∙ c.len.ensures;
  states_fit = All-weaker IsAtRest IsKept rest_kept c.in_ok-states.states.items c.in_ok-states.ensures.rest;
  out_each = ap length c.in_ok-out.ensures ∙ length-replicate c.len-2.result (pos 0) ∙ c.len-2.ensures;
}

pub returns-clause-case : goal.returns-clause-case
returns-clause-case c = refl

pub returns-clause-stands : goal.returns-clause-stands
returns-clause-stands c =
    let each = c.in_ok-states.ensures.each ∙ c.len.ensures in
    record { one_each = each; blocks = stands_at_rest c.args.case.now.parts c.in_ok-states.states.items each c.in_ok-states.ensures.rest }

pub returns-in_err-places-clause-case : goal.returns-in_err-places-clause-case
returns-in_err-places-clause-case c = IfOk-from_err c.from_residual.result _ c.from_residual.ensures.0

pub returns-in_err-places-clause-stands : goal.returns-in_err-places-clause-stands
returns-in_err-places-clause-stands c = IfOk-from_err c.from_residual.result _ c.from_residual.ensures.0

pub returns-in_err-laws-clause-case : goal.returns-in_err-laws-clause-case
returns-in_err-laws-clause-case c = IfOk-from_err c.from_residual-in_err-laws.result _ c.from_residual-in_err-laws.ensures.0

pub returns-in_err-laws-clause-stands : goal.returns-in_err-laws-clause-stands
returns-in_err-laws-clause-stands c = IfOk-from_err c.from_residual-in_err-laws.result _ c.from_residual-in_err-laws.ensures.0

pub returns-in_err-states-clause-case : goal.returns-in_err-states-clause-case
returns-in_err-states-clause-case c = IfOk-from_err c.from_residual-in_err-states.result _ c.from_residual-in_err-states.ensures.0

pub returns-in_err-states-clause-stands : goal.returns-in_err-states-clause-stands
returns-in_err-states-clause-stands c = IfOk-from_err c.from_residual-in_err-states.result _ c.from_residual-in_err-states.ensures.0

pub returns-in_err-out-clause-case : goal.returns-in_err-out-clause-case
returns-in_err-out-clause-case c = IfOk-from_err c.from_residual-in_err-out.result _ c.from_residual-in_err-out.ensures.0

pub returns-in_err-out-clause-stands : goal.returns-in_err-out-clause-stands
returns-in_err-out-clause-stands c = IfOk-from_err c.from_residual-in_err-out.result _ c.from_residual-in_err-out.ensures.0
