use Rattle.std.proofs.Common.{sym, subst, ◌≤◌, length, length-take, drop, arith}
use Rattle.emtp_taccards.proofs.formula_card.expression_text.Goals as goal

pub returns-clause-short : goal.returns-clause-short
returns-clause-short c = subst (λ text. length text ≤ 69) (sym c.columns.ensures) (omega (arith, length-take 69 (drop 11 c.args.line.now)))
