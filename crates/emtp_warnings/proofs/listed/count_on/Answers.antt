use Rattle.std.proofs.Common.{ap, length, ℕ}
use Rattle.std.specs.Prelude.{Option, unwrap_or}
use Rattle.emtp_warnings.proofs.listed.count_on.Goals as goal

pub returns-in-Some-clause-value : goal.returns-in-Some-clause-value
returns-in-Some-clause-value c = ap (λ (at : Option ℕ). unwrap_or at (length c.args.records.now)) c.in-Some.ensures.value

pub returns-in-None-clause-value : goal.returns-in-None-clause-value
returns-in-None-clause-value c = ap (λ (at : Option ℕ). unwrap_or at (length c.args.records.now)) c.in-None.ensures.value
