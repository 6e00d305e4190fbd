use Rattle.std.proofs.Common.{arith}
use Rattle.emtp_fix.proofs.Digits.{fraction-written, fraction-last}
use Rattle.emtp_fix.proofs.laws.decimals_read_back.Goals as goal

pub returns-clause-value : goal.returns-clause-value
returns-clause-value c = fraction-written c.args.places c.args.rest c.requires.rest

pub returns-clause-last : goal.returns-clause-last
returns-clause-last c = fraction-last c.args.places c.args.rest 0 c.requires.rest (λ none e. absurd (omega (arith, e)))
