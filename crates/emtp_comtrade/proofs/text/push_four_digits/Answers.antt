use Rattle.std.proofs.Common.{arith}
use Rattle.emtp_comtrade.proofs.Digits.{digits_next}
use Rattle.emtp_comtrade.proofs.text.push_four_digits.Goals as goal

pub returns-clause-text : goal.returns-clause-text
returns-clause-text g c = digits_next c.args.text.now.items c.push_three_digits.new.text.items c.push_digit-2.new.text.items c.args.number (omega arith) (omega arith) c.push_three_digits.ensures.text c.push_digit-2.ensures.text
