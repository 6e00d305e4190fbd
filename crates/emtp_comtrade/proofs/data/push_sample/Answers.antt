use Rattle.std.proofs.Common.{append_assoc}
use Rattle.emtp_comtrade.specs.Record.{dat_line}
use Rattle.emtp_comtrade.proofs.data.push_sample.Goals as goal

pub returns-clause-text : goal.returns-clause-text
unfolding dat_line
returns-clause-text c =
    simp (
      c.push-2.ensures.text,
      c.push_states.ensures.text,
      c.push_raws.ensures.text,
      c.push_number-2.ensures.text,
      c.push.ensures.text,
      c.push_number.ensures.text,
      c.from.ensures,
      append_assoc,
    )
