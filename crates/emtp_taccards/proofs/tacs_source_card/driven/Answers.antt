use Rattle.std.proofs.Common.{sym, subst, Result}
use Rattle.std.specs.Prelude.{IfOk}
use Rattle.emtp_card.specs.declared.fault.Fault.{Fault}
use Rattle.emtp_taccards.specs.TacsSourceCard.{Course, Times}
use Rattle.emtp_taccards.specs.held.TacsSourceCard.{IsSignal}
use Rattle.emtp_taccards.proofs.Signals.{driven_signal}
use Rattle.emtp_taccards.proofs.tacs_source_card.driven.Goals as goal

pub returns-clause-numbers : goal.returns-clause-numbers
returns-clause-numbers c =
    subst (λ (r : Result (Course × Times) Fault). IfOk r (λ signal. IsSignal signal.0 signal.1)) (sym c.both.ensures.value)
    (driven_signal c.args.course c.active_times.result c.requires c.active_times.ensures.start c.active_times.ensures.stop)
