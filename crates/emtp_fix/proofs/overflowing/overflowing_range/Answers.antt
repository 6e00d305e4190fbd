use Rattle.std.proofs.Common.{arith}
use Rattle.std.proofs.lemmas.Int.{ints}
use Rattle.std.proofs.lemmas.Nat.{le_or_l, le_or_r}
use Rattle.emtp_fix.proofs.Ranges.{in_range-some}
use Rattle.emtp_fix.proofs.overflowing.overflowing_range.Goals as goal

pub returns-clause-overflow : goal.returns-clause-overflow
returns-clause-overflow c = λ none. omega (arith, none, le_or_l)

pub returns-clause-within : goal.returns-clause-within
returns-clause-within c = λ none. omega (arith, ints, c.beyond.ensures (omega (arith, none, le_or_r)))

pub returns-clause-value : goal.returns-clause-value
returns-clause-value c = λ none. in_range-some c.args.x (omega (arith, ints, c.beyond.ensures (omega (arith, none, le_or_r))))
