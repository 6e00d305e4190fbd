use Rattle.std.proofs.Common.{arith, rules}
use Rattle.std.proofs.lemmas.Int.{ints}
use Rattle.emtp_line.specs.Line.{line_state}
use Rattle.emtp_line.proofs.held.next.Goals as goal

pub end-requires-clause-mode : goal.end-requires-clause-mode
end-requires-clause-mode c = c.requires.mode

pub end-requires-clause-history : goal.end-requires-clause-history
end-requires-clause-history c = omega (arith, ints, c.requires.from_small)

pub end-requires-2-clause-mode : goal.end-requires-2-clause-mode
end-requires-2-clause-mode c = c.requires.mode

pub end-requires-2-clause-history : goal.end-requires-2-clause-history
end-requires-2-clause-history c = omega (arith, ints, c.requires.to_small)

pub returns-in_err-from_current-clause-value : goal.returns-in_err-from_current-clause-value
unfolding line_state
returns-in_err-from_current-clause-value c = search rules

pub returns-in_err-from_current-clause-from : goal.returns-in_err-from_current-clause-from
returns-in_err-from_current-clause-from c = rw c.from_residual.ensures tt

pub returns-in_err-from_current-clause-to : goal.returns-in_err-from_current-clause-to
returns-in_err-from_current-clause-to c = rw c.from_residual.ensures tt

pub returns-in_err-to_current-clause-value : goal.returns-in_err-to_current-clause-value
unfolding line_state
returns-in_err-to_current-clause-value c = search rules

pub returns-in_err-to_current-clause-from : goal.returns-in_err-to_current-clause-from
returns-in_err-to_current-clause-from c = rw c.from_residual-in_err-to_current.ensures tt

pub returns-in_err-to_current-clause-to : goal.returns-in_err-to_current-clause-to
returns-in_err-to_current-clause-to c = rw c.from_residual-in_err-to_current.ensures tt

pub returns-clause-value : goal.returns-clause-value
unfolding line_state
returns-clause-value c = search rules

pub returns-clause-from : goal.returns-clause-from
returns-clause-from c = omega (arith, ints, c.in_ok-from_current.ensures.current)

pub returns-clause-to : goal.returns-clause-to
returns-clause-to c = omega (arith, ints, c.in_ok-to_current.ensures.current)
