use Rattle.emtp_machine.specs.History.{history, samples}
use Rattle.emtp_machine.proofs.RecordRanges.{samples_in_range}
use Rattle.emtp_audit.proofs.AuditSame.{record-same}
use Rattle.emtp_audit.proofs.laws.own_record_is_the_same.Goals as goal

pub returns-clause-any : goal.returns-clause-any
returns-clause-any c = record-same

pub returns-clause-run : goal.returns-clause-run
returns-clause-run c = λ p is. record-same p (samples p (history p)) is (samples_in_range p is)
