use Rattle.std.specs.Prelude.{List}
use Rattle.std.proofs.Common.{ap}
use Rattle.emtp_case.specs.declared.source.Source.{Source}
use Rattle.emtp_case.specs.held.Case.{IsDraft}
use Rattle.emtp_case.proofs.Growth.{draft_same, no_ok, on_err, pushed_or_not}
use Rattle.emtp_case.proofs.DraftSteps.{with_tacs_source}
use Rattle.emtp_case.proofs.draft.Draft.add_tacs_source.Goals as goal

pub invariant_of-self : goal.invariant_of-self
invariant_of-self c =
    let p = c.args.self.now.parts in
    let P : List Source → Type 0 = λ xs. IsDraft (record p { tacs_sources = xs }) in
    let more = with_tacs_source p c.args.source c.args.self.now.fits c.requires.room c.requires.fits in
    record { fits = pushed_or_not P c.push.result p.tacs_sources c.push.new.self c.args.source c.push.ensures.ok c.push.ensures.err more c.args.self.now.fits }

pub returns-clause-ok : goal.returns-clause-ok
returns-clause-ok c =
    let p = c.args.self.now.parts in
    ap (λ (xs : List Source). record p { tacs_sources = xs }) c.in_ok-push.ensures.ok

pub returns-clause-err : goal.returns-clause-err
returns-clause-err c = tt

pub returns-in_err-push-clause-ok : goal.returns-in_err-push-clause-ok
returns-in_err-push-clause-ok c = no_ok _ c.from_residual.result c.from_residual.ensures.0

pub returns-in_err-push-clause-err : goal.returns-in_err-push-clause-err
returns-in_err-push-clause-err c =
    let p = c.args.self.now.parts in
    on_err c.from_residual.result (draft_same _ c.args.self.now (ap (λ (xs : List Source). record p { tacs_sources = xs }) c.in_err-push.ensures.err))
