use Rattle.emtp_assess.proofs.Stepping.{on_ended, on_made}
use Rattle.emtp_assess.proofs.stepped.SteppedRun.advance.Goals as goal

pub returns-clause-on : goal.returns-clause-on
returns-clause-on g c =
    on_made c.is_ok.result c.args.self.now.machine c.step.new.self c.step.result c.is_ok.ensures.value c.step.ensures.answer c.step.ensures.case (c.step.ensures.further c.if-is_over.ensures.running)

pub returns-clause-over : goal.returns-clause-over
returns-clause-over g c =
    on_ended c.is_ok.result c.args.self.now.machine c.step.new.self c.step.result c.is_ok.ensures.value c.step.ensures.answer c.step.ensures.case (c.step.ensures.further c.if-is_over.ensures.running)
    c.if-is_over.ensures.left c.if-is_over.ensures.running
