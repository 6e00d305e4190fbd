use Rattle.std.proofs.Common.{refl}
use Rattle.std.proofs.lemmas.Fn.{says_at}
use Rattle.emtp_admittance.proofs.LeastLines.{least_more}
use Rattle.emtp_admittance.proofs.refusal.least_refusal.Goals as goal

pub loop-card-preserved : goal.loop-card-preserved
loop-card-preserved g c = λ f answers.
    least_more f c.args.cards.now c.loop-card.card-index _ c.refused.result c.loop-card.best c.sooner-best.result _ c.loop-card-test.true c.card-item.is (answers _ _ (says_at g.F.Fn c.refused.ensures refl)) c.sooner-best.ensures (c.loop-card.invariant f answers)
