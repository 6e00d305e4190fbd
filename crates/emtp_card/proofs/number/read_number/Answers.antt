use Rattle.emtp_card.specs.Field.{trimmed}
use Rattle.emtp_card.proofs.Grammar.{decimal_spelled, decimal_read}
use Rattle.emtp_card.proofs.number.read_number.Goals as goal

pub returns-clause-spelling : goal.returns-clause-spelling
returns-clause-spelling c = λ decimal. (decimal_spelled (trimmed c.args.text.now) decimal, decimal_read (trimmed c.args.text.now) decimal)
