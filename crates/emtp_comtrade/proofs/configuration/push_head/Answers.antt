use Rattle.std.proofs.Common.{append_assoc}
use Rattle.emtp_comtrade.specs.Record.{cfg_head}
use Rattle.emtp_comtrade.proofs.configuration.push_head.Goals as goal

pub returns-clause-text : goal.returns-clause-text
unfolding cfg_head
returns-clause-text c =
    simp (
      c.push-4.ensures.text,
      c.push_number-3.ensures.text,
      c.push-3.ensures.text,
      c.push_number-2.ensures.text,
      c.push-2.ensures.text,
      c.push_number.ensures.text,
      c.push.ensures.text,
      c.len.ensures,
      c.analog_count.ensures,
      c.status_count.ensures,
      append_assoc,
    )
