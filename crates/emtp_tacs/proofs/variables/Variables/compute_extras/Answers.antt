use Rattle.std.proofs.Common.{◌∙◌, sym, subst, length, List, ℤ}
use Rattle.std.proofs.lemmas.List.{with_items_is}
use Rattle.emtp_tacs.specs.held.Stages.{IsSoFar, Reaches}
use Rattle.emtp_tacs.specs.Step.{extras}
use Rattle.emtp_tacs.proofs.variables.Variables.compute_extras.Goals as goal

pub returns-clause-pass : goal.returns-clause-pass
returns-clause-pass c = λ H s long so_far.
    let case = c.args.pass.case.now.parts in
    let early = c.args.pass.early in
    let whole = with_items_is c.args.self.now.values c.compute_extras.new.values (c.compute_extras.auto.values ∙ c.deref_mut.ensures.len) in
    let start = subst (λ (vs : List ℤ). IsSoFar case H early 0 vs c.args.self.now.devices s) (sym c.deref_mut.ensures.value) so_far in
    subst (λ (vs : List ℤ). Reaches c.compute_extras.result case H early (length case.extras) vs c.compute_extras.new.devices (extras case H early s)) (sym whole)
    (c.compute_extras.ensures.cards H s long start)
