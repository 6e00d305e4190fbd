use Rattle.std.proofs.Common.{◌≡◌, ◌∙◌, sym, ap, subst, length, Err, Result, arith}
use Rattle.std.proofs.lemmas.Result.{err_from_is_err_and}
use Rattle.emtp_blocks.specs.held.BlockRows.{Blocking, rows_of_blocks, StandsFor as BlocksStandFor}
use Rattle.emtp_tail.specs.held.Good.{Good}
use Rattle.emtp_tacs.specs.held.Stages.{Solves}
use Rattle.emtp_tacs.specs.Step.{blocks, with_outputs}
use Rattle.emtp_tacs.specs.declared.fault.TacsFault.{TacsFault}
use Rattle.emtp_tacs.proofs.NoCards.{none_solved}
use Rattle.emtp_tacs.proofs.Systems.{err_claims, err_names, rows_are, system_refuses, system_solves}
use Rattle.emtp_tacs.proofs.block_system.BlockSystem.solve.Goals as goal

pub returns-then-count-eq0-clause-solves : goal.returns-then-count-eq0-clause-solves
returns-then-count-eq0-clause-solves g c = λ H stands.
    let case = c.args.case.now.parts in
    let none : length case.blocks ≡ 0 = omega (arith, c.len-count.ensures) in
    let factored = subst (λ (b : Blocking). BlocksStandFor b H) (sym c.factor.ensures.blocks) stands in
    record {
      solves = none_solved case c.factor.new.self.blocks H c.args.values.now none c.factor.ensures.holds.case_is factored;
      kept = c.in_ok-factor.ensures.rows ∙ rows_are case c.args.self.now.blocks H c.requires.holds.case_is stands;
    }

pub returns-then-count-eq0-clause-holds : goal.returns-then-count-eq0-clause-holds
returns-then-count-eq0-clause-holds g c = c.factor.ensures.holds

pub returns-then-count-eq0-clause-values : goal.returns-then-count-eq0-clause-values
returns-then-count-eq0-clause-values g c = c.requires.values

pub returns-then-count-eq0-clause-redone : goal.returns-then-count-eq0-clause-redone
returns-then-count-eq0-clause-redone g c = c.factor.ensures.redone

pub returns-then-count-eq0-clause-ticks : goal.returns-then-count-eq0-clause-ticks
returns-then-count-eq0-clause-ticks g c = c.in_ok-factor.ensures.ticks

pub returns-then-count-eq0-clause-most : goal.returns-then-count-eq0-clause-most
returns-then-count-eq0-clause-most g c = c.factor.ensures.most

pub returns-clause-solves : goal.returns-clause-solves
returns-clause-solves g c = λ H stands.
    let case = c.args.case.now.parts in
    let known = c.args.values.now in
    let factored = subst (λ (b : Blocking). BlocksStandFor b H) (sym c.factor.ensures.blocks) stands in
    let solved = subst (λ (b : Blocking). BlocksStandFor b H) (sym c.find_outputs.ensures.blocks) factored in
    let found = c.in_ok-find_outputs.ensures.finds H factored in
    let took = c.in_ok-accept.ensures.accepts H solved in
    record {
      solves = system_solves case c.accept.new.self.blocks H known c.find_outputs.new.self.x.items c.accept.new.self.x.items c.put_outputs.new.values c.accept.ensures.holds.case_is found took (c.put_outputs.ensures.value ∙ ap (λ ys. with_outputs case ys (length case.blocks) known) c.deref.ensures.value);
      kept = ap (λ (k : Good). k.rows) (c.accept.ensures.kept ∙ c.find_outputs.ensures.kept) ∙ c.in_ok-factor.ensures.rows ∙ rows_are c.args.case.now.parts c.args.self.now.blocks H c.requires.holds.case_is stands;
    }

pub returns-in_err-accept-clause-solves : goal.returns-in_err-accept-clause-solves
returns-in_err-accept-clause-solves g c = λ H stands.
    let case = c.args.case.now.parts in
    let known = c.args.values.now in
    let factored = subst (λ (b : Blocking). BlocksStandFor b H) (sym c.factor.ensures.blocks) stands in
    let solved = subst (λ (b : Blocking). BlocksStandFor b H) (sym c.find_outputs.ensures.blocks) factored in
    let refused = c.in_err-accept.ensures.accepts H solved (c.in_ok-find_outputs.ensures.finds H factored) in
    let returned = err_from_is_err_and c.from_residual-in_err-accept.result c.from_residual-in_err-accept.ensures.1 in
    record {
      solves = subst (λ (r : Result (Unit {0}) TacsFault). Solves r c.accept.new.self.blocks known H (blocks case H known)) (sym (returned.1 ∙ ap Err returned.2)) (system_refuses case c.accept.new.self.blocks H known known _ refused);
      kept = err_claims _ c.from_residual-in_err-accept.result _ c.from_residual-in_err-accept.ensures.1;
    }

pub returns-in_err-factor-clause-solves : goal.returns-in_err-factor-clause-solves
returns-in_err-factor-clause-solves g c = λ H stands.
    let case = c.args.case.now.parts in
    let known = c.args.values.now in
    let returned = err_from_is_err_and c.from_residual.result c.from_residual.ensures.1 in
    record {
      solves = subst (λ (r : Result (Unit {0}) TacsFault). Solves r c.factor.new.self.blocks known H (blocks case H known)) (sym (returned.1 ∙ ap Err returned.2)) (system_refuses case c.factor.new.self.blocks H known known _ (c.in_err-factor.ensures.fault H known stands));
      kept = err_claims _ c.from_residual.result _ c.from_residual.ensures.1;
    }

pub returns-in_err-find_outputs-clause-solves : goal.returns-in_err-find_outputs-clause-solves
returns-in_err-find_outputs-clause-solves g c = λ H stands.
    let case = c.args.case.now.parts in
    let known = c.args.values.now in
    let factored = subst (λ (b : Blocking). BlocksStandFor b H) (sym c.factor.ensures.blocks) stands in
    let returned = err_from_is_err_and c.from_residual-in_err-find_outputs.result c.from_residual-in_err-find_outputs.ensures.1 in
    record {
      solves = subst (λ (r : Result (Unit {0}) TacsFault). Solves r c.find_outputs.new.self.blocks known H (blocks case H known)) (sym (returned.1 ∙ ap Err returned.2)) (system_refuses case c.find_outputs.new.self.blocks H known known _ (c.in_err-find_outputs.ensures.finds H factored));
      kept = err_claims _ c.from_residual-in_err-find_outputs.result _ c.from_residual-in_err-find_outputs.ensures.1;
    }

pub returns-in_err-factor-clause-holds : goal.returns-in_err-factor-clause-holds
returns-in_err-factor-clause-holds g c = c.factor.ensures.holds

pub returns-in_err-factor-clause-redone : goal.returns-in_err-factor-clause-redone
returns-in_err-factor-clause-redone g c = c.factor.ensures.redone

pub returns-in_err-factor-clause-ticks : goal.returns-in_err-factor-clause-ticks
returns-in_err-factor-clause-ticks g c = err_claims _ c.from_residual.result _ c.from_residual.ensures.1

pub returns-in_err-factor-clause-most : goal.returns-in_err-factor-clause-most
returns-in_err-factor-clause-most g c = c.factor.ensures.most

pub returns-in_err-factor-clause-var : goal.returns-in_err-factor-clause-var
returns-in_err-factor-clause-var g c = err_names c.args.case.now.parts c.from_residual.result _ c.from_residual.ensures.1 c.in_err-factor.ensures.var

pub returns-in_err-factor-clause-values : goal.returns-in_err-factor-clause-values
returns-in_err-factor-clause-values g c = c.requires.values

pub returns-in_err-find_outputs-clause-holds : goal.returns-in_err-find_outputs-clause-holds
returns-in_err-find_outputs-clause-holds g c = c.find_outputs.ensures.holds

pub returns-in_err-find_outputs-clause-redone : goal.returns-in_err-find_outputs-clause-redone
returns-in_err-find_outputs-clause-redone g c = c.find_outputs.ensures.redone ∙ c.factor.ensures.redone

pub returns-in_err-find_outputs-clause-ticks : goal.returns-in_err-find_outputs-clause-ticks
returns-in_err-find_outputs-clause-ticks g c = err_claims _ c.from_residual-in_err-find_outputs.result _ c.from_residual-in_err-find_outputs.ensures.1

pub returns-in_err-find_outputs-clause-most : goal.returns-in_err-find_outputs-clause-most
returns-in_err-find_outputs-clause-most g c = c.factor.ensures.most

pub returns-in_err-find_outputs-clause-var : goal.returns-in_err-find_outputs-clause-var
returns-in_err-find_outputs-clause-var g c = err_names c.args.case.now.parts c.from_residual-in_err-find_outputs.result _ c.from_residual-in_err-find_outputs.ensures.1 c.in_err-find_outputs.ensures.var

pub returns-in_err-find_outputs-clause-values : goal.returns-in_err-find_outputs-clause-values
returns-in_err-find_outputs-clause-values g c = c.requires.values

pub returns-in_err-accept-clause-holds : goal.returns-in_err-accept-clause-holds
returns-in_err-accept-clause-holds g c = c.accept.ensures.holds

pub returns-in_err-accept-clause-redone : goal.returns-in_err-accept-clause-redone
returns-in_err-accept-clause-redone g c = c.accept.ensures.redone ∙ c.find_outputs.ensures.redone ∙ c.factor.ensures.redone

pub returns-in_err-accept-clause-ticks : goal.returns-in_err-accept-clause-ticks
returns-in_err-accept-clause-ticks g c = err_claims _ c.from_residual-in_err-accept.result _ c.from_residual-in_err-accept.ensures.1

pub returns-in_err-accept-clause-most : goal.returns-in_err-accept-clause-most
returns-in_err-accept-clause-most g c = c.factor.ensures.most

pub returns-in_err-accept-clause-var : goal.returns-in_err-accept-clause-var
returns-in_err-accept-clause-var g c = err_names c.args.case.now.parts c.from_residual-in_err-accept.result _ c.from_residual-in_err-accept.ensures.1 c.in_err-accept.ensures.var

pub returns-clause-holds : goal.returns-clause-holds
returns-clause-holds g c = c.accept.ensures.holds

pub returns-clause-redone : goal.returns-clause-redone
returns-clause-redone g c = c.accept.ensures.redone ∙ c.find_outputs.ensures.redone ∙ c.factor.ensures.redone

pub returns-clause-ticks : goal.returns-clause-ticks
returns-clause-ticks g c = c.in_ok-factor.ensures.ticks

pub returns-clause-most : goal.returns-clause-most
returns-clause-most g c = c.factor.ensures.most

pub find_outputs-requires-clause-rows : goal.find_outputs-requires-clause-rows
find_outputs-requires-clause-rows g c = c.in_ok-factor.ensures.rows ∙ ap rows_of_blocks (sym c.factor.ensures.blocks)

pub accept-requires-clause-rows : goal.accept-requires-clause-rows
accept-requires-clause-rows g c = ap (λ (k : Good). k.rows) c.find_outputs.ensures.kept ∙ c.in_ok-factor.ensures.rows ∙ ap rows_of_blocks (sym (c.find_outputs.ensures.blocks ∙ c.factor.ensures.blocks))

pub accept-requires-clause-x : goal.accept-requires-clause-x
accept-requires-clause-x g c = c.in_ok-find_outputs.ensures.small
