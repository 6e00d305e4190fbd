use Rattle.std.proofs.Common.{◌∙◌, sym, arith}
use Rattle.emtp_card.proofs.Blanks.{cut_blank, keep_last, keep_none}
use Rattle.emtp_card.proofs.field.trim_end.Goals.{then-loop-end-test+else-text-end-eq32, else-loop-end-test}
use Rattle.emtp_card.proofs.field.trim_end.Goals as goal

pub loop-end-preserved : goal.loop-end-preserved
loop-end-preserved c = record {
  within = omega arith;
  same = cut_blank c.args.text.now c.loop-end.end (omega arith) c.loop-end.invariant.within c.if-text-end-eq32.true ∙ c.loop-end.invariant.same;
}

pub returns-clause-value : goal.returns-clause-value
returns-clause-value c =
    let text = c.args.text.now in
    let end = c.loop-end.end in
    elim c.loop-end-test.branch [
      | then-loop-end-test+else-text-end-eq32 w ↦ sym (keep_last text end (omega arith) c.loop-end.invariant.within w.if-text-end-eq32.false) ∙ c.loop-end.invariant.same
      | else-loop-end-test w ↦ sym (keep_none text end w.loop-end-test.false) ∙ c.loop-end.invariant.same
    ]
