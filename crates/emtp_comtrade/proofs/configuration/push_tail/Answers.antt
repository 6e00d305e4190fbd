use Rattle.std.proofs.Common.{rules, w64, to_z, of_z, ◌≡◌, ◌∙◌, append_assoc}
use Rattle.emtp_comtrade.specs.Record.{cfg_tail}
use Rattle.emtp_comtrade.proofs.configuration.push_tail.Goals as goal

pub returns : goal.returns
unfolding cfg_tail
returns c =
    let held : to_z w64 (of_z w64 c.sample_time.result) ≡ c.sample_time.result = search rules in
    let time = held ∙ c.sample_time.ensures.value in
    record {
      text =
          simp (
            time,
            c.push-3.ensures.text,
            c.push_fixed.ensures.text,
            c.push-2.ensures.text,
            c.push_number.ensures.text,
            c.push.ensures.text,
            append_assoc,
          );
    }
