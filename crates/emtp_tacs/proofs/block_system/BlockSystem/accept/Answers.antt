use Rattle.std.proofs.lemmas.Grind.{common_steps}
use Rattle.std.proofs.Common.{◌∙◌, sym, subst, List, ℤ, arith}
use Rattle.std.proofs.lemmas.List.{with_items_is}
use Rattle.emtp_blocks.specs.held.BlockRows.{HaveAccepted}
use Rattle.emtp_tacs.proofs.block_system.BlockSystem.accept.Goals as goal

pub returns-in-Ok-clause-accepts : goal.returns-in-Ok-clause-accepts
returns-in-Ok-clause-accepts c = λ H stands.
    let whole = with_items_is c.args.self.now.x c.accept.new.x (c.accept.auto.x ∙ c.deref_mut.ensures.len) in
    let told = c.in-Ok.ensures.value H stands in
    let of_solved = subst (λ (xs : List ℤ). HaveAccepted c.accept.new.self c.accept.new.x H c.args.values.now xs) c.deref_mut.ensures.value told in
    subst (λ (ys : List ℤ). HaveAccepted c.accept.new.self ys H c.args.values.now c.args.self.now.x.items) (sym whole) of_solved

pub returns-in-Ok-clause-holds : goal.returns-in-Ok-clause-holds
returns-in-Ok-clause-holds c = grind (arith, common_steps)
