use Rattle.std.specs.Prelude.{List}
use Rattle.std.proofs.Common.{ap}
use Rattle.emtp_case.specs.declared.control.Block.{Block}
use Rattle.emtp_case.specs.held.Case.{IsDraft}
use Rattle.emtp_case.proofs.Growth.{draft_same, no_ok, on_err, pushed_or_not}
use Rattle.emtp_case.proofs.DraftSteps.{with_block}
use Rattle.emtp_case.proofs.draft.Draft.add_block.Goals as goal

pub invariant_of-self : goal.invariant_of-self
invariant_of-self c =
    let p = c.args.self.now.parts in
    let P : List Block → Type 0 = λ xs. IsDraft (record p { blocks = xs }) in
    let more = with_block p c.args.block c.args.self.now.fits c.requires.room c.requires.fits in
    record { fits = pushed_or_not P c.push.result p.blocks c.push.new.self c.args.block c.push.ensures.ok c.push.ensures.err more c.args.self.now.fits }

pub returns-clause-ok : goal.returns-clause-ok
returns-clause-ok c =
    let p = c.args.self.now.parts in
    ap (λ (xs : List Block). record p { blocks = xs }) c.in_ok-push.ensures.ok

pub returns-clause-err : goal.returns-clause-err
returns-clause-err c = tt

pub returns-in_err-push-clause-ok : goal.returns-in_err-push-clause-ok
returns-in_err-push-clause-ok c = no_ok _ c.from_residual.result c.from_residual.ensures.0

pub returns-in_err-push-clause-err : goal.returns-in_err-push-clause-err
returns-in_err-push-clause-err c =
    let p = c.args.self.now.parts in
    on_err c.from_residual.result (draft_same _ c.args.self.now (ap (λ (xs : List Block). record p { blocks = xs }) c.in_err-push.ensures.err))
