use Rattle.std.proofs.Common.{take, ◌∙◌, sym, subst, arith}
use Rattle.std.proofs.lemmas.List.{take_more, take_all}
use Rattle.std.proofs.lemmas.Result.{IfOk-from_err}
use Rattle.emtp_tail.specs.Runs.{FitsSize}
use Rattle.emtp_tail.proofs.Running.{run_more}
use Rattle.emtp_tail.proofs.runs.answer_all.Goals as goal

pub loop-call-preserved : goal.loop-call-preserved
loop-call-preserved g c =
    let calls = c.args.calls.now in
    let i = c.loop-call.call-index in
    let call = c.call-item.result in
    let one_more = take_more calls i call c.loop-call-test.true in
    let longer = run_more g.R.Rows.matrix c.args.kept.now c.loop-call.kept c.answer.new.kept c.args.steps.now c.loop-call.steps c.answer.new.steps (take i calls) c.loop-call.replies.items call c.in_ok-reply.reply c.loop-call.invariant.0 c.in_ok-reply.ensures.step in (
      rw (one_more, ← c.call-item.is, c.in_ok-push.ensures.items) longer,
      c.in_ok-reply.ensures.size ∙ c.loop-call.invariant.1,
    )

pub returns-in_err-reply-clause-run : goal.returns-in_err-reply-clause-run
returns-in_err-reply-clause-run g c = IfOk-from_err c.from_residual.result _ c.from_residual.ensures.0

pub returns-in_err-push-clause-run : goal.returns-in_err-push-clause-run
returns-in_err-push-clause-run g c = IfOk-from_err c.from_residual-in_err-push.result _ c.from_residual-in_err-push.ensures.0

pub returns-clause-run : goal.returns-clause-run
returns-clause-run g c = rw (take_all c.loop-call.call-index c.args.calls.now (omega (arith, c.loop-call-test.false))) at c.loop-call.invariant.0

pub answer-requires : goal.answer-requires
answer-requires g c =
    rw c.loop-call.invariant.1 (subst (FitsSize g.R.Rows.matrix c.args.kept.now.size) (sym c.call-item.is) (c.requires c.loop-call.call-index c.call-item.result c.loop-call-test.true))
