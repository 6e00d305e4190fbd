use Rattle.std.proofs.Common.{sym, ◌∙◌, arith}
use Rattle.emtp_fix.proofs.Wide.{through_64}
use Rattle.emtp_audit.specs.Rules.{audited_lines}
use Rattle.emtp_audit.proofs.Reading.{first-none, first-some}
use Rattle.emtp_audit.proofs.dat.first_stamp.Goals as goal

pub returns-in-None-clause-value : goal.returns-in-None-clause-value
returns-in-None-clause-value c = sym (first-none c.args.bytes.now c.in-None.ensures.lines)

pub returns-in-Some-clause-value : goal.returns-in-Some-clause-value
returns-in-Some-clause-value c =
    through_64 c.stamp_in.result (omega (arith, c.stamp_in.ensures.high)) ∙ c.stamp_in.ensures.value
    ∙ sym (first-some c.args.bytes.now c.in-Some.line.now (audited_lines c.in-Some.field-0-1.now) c.in-Some.ensures.lines)
