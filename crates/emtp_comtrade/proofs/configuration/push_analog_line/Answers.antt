use Rattle.std.proofs.Common.{rules, w64, to_z, of_z, ◌≡◌, append_assoc}
use Rattle.emtp_comtrade.specs.Record.{analog_line}
use Rattle.emtp_comtrade.proofs.configuration.push_analog_line.Goals as goal

pub returns-clause-text : goal.returns-clause-text
unfolding analog_line
returns-clause-text c =
    let multiplier : to_z w64 (of_z w64 c.args.multiplier) ≡ c.args.multiplier = search rules in
    simp (
      multiplier,
      c.push-5.ensures.text,
      c.push_fixed.ensures.text,
      c.push-4.ensures.text,
      c.push-3.ensures.text,
      c.unit_at.ensures.unit,
      c.push-2.ensures.text,
      c.push_name.ensures.text,
      c.push.ensures.text,
      c.push_number.ensures.text,
      c.requires.analog,
      append_assoc,
    )
