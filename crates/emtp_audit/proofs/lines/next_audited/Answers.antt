use Rattle.emtp_audit.proofs.Reading.{audited-none, audited-end, audited-some}
use Rattle.emtp_audit.proofs.lines.next_audited.Goals as goal

pub returns-in-None-clause-lines : goal.returns-in-None-clause-lines
returns-in-None-clause-lines c = audited-none c.args.text.now c.in-None.ensures.lines

pub returns-then-ends-clause-lines : goal.returns-then-ends-clause-lines
returns-then-ends-clause-lines c = audited-end c.args.text.now c.in-Some.line.now c.in-Some.tail.now c.ends.result c.in-Some.ensures.lines c.ends.ensures c.if-ends.true

pub returns-else-ends-clause-lines : goal.returns-else-ends-clause-lines
returns-else-ends-clause-lines c = audited-some c.args.text.now c.in-Some.line.now c.in-Some.tail.now c.ends.result c.in-Some.ensures.lines c.ends.ensures c.if-ends.false
