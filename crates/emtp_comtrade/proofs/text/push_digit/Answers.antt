use Rattle.std.proofs.Common.{◌∙◌, sym, ap, ◌++◌, ℕ, List}
use Rattle.std.proofs.lemmas.Fmt.{decimal_digit}
use Rattle.emtp_comtrade.proofs.text.push_digit.Goals as goal

pub returns-clause-text : goal.returns-clause-text
returns-clause-text g c = c.push.ensures.items ∙ ap (λ (xs : List ℕ). c.args.text.now.items ++ xs) (sym (decimal_digit c.args.digit c.requires.digit))
