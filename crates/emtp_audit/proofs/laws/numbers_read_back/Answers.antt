use Rattle.emtp_audit.proofs.Whole.{whole-signed, stamp-decimal}
use Rattle.emtp_audit.proofs.laws.numbers_read_back.Goals as goal

pub returns-clause-whole : goal.returns-clause-whole
returns-clause-whole c = whole-signed

pub returns-clause-stamp : goal.returns-clause-stamp
returns-clause-stamp c = stamp-decimal
