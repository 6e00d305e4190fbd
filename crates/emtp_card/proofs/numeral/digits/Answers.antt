use Rattle.std.proofs.lemmas.Grind.{common_steps}
use Rattle.std.proofs.Common.{arith, ◌≡◌, sym, subst, take_while}
use Rattle.std.specs.Char.{is_ascii_digit}
use Rattle.emtp_card.specs.held.Numeral.{AreDigits}
use Rattle.emtp_card.proofs.Digits.{digits_in_front}
use Rattle.emtp_card.proofs.numeral.digits.Goals as goal

pub returns-clause-are : goal.returns-clause-are
returns-clause-are c =
    let front : c.split_at.result.0.now ≡ take_while is_ascii_digit c.args.text.now = grind (arith, common_steps) in
    subst AreDigits (sym front) (digits_in_front c.args.text.now)
