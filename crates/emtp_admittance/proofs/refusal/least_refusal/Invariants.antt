use Rattle.std.proofs.Common.{◌≡◌, drop}
use Rattle.emtp_admittance.specs.held.Least.{AnswersBy}
use Rattle.emtp_admittance.specs.Refusals.{least_refusal, sooner}
use Rattle.emtp_admittance.proofs.refusal.least_refusal.Given as goal

abbrev pub invariant-loop-card : goal.invariant-loop-card
invariant-loop-card g l = (f : _) → AnswersBy g.F.Fn l.refused f → least_refusal f l.cards ≡ sooner l.best (least_refusal f (drop l.card-index l.cards))
