use Rattle.std.proofs.Common.{◌≡◌, ◌∙◌, ◌++◌, ap, arith, codes, of_z, rules, to_z, w64, ℕ, ℤ}
use Rattle.emtp_comtrade.proofs.Lines.{joined-next}
use Rattle.emtp_comtrade.specs.Record.{joined}
use Rattle.emtp_machine.specs.Samples.{value_at}
use Rattle.emtp_assess.specs.SampleLines.{value_in_line, value_text}
use Rattle.emtp_assess.proofs.Lines.{line-ended}
use Rattle.emtp_assess.proofs.sample_lines.put_sample.Goals as goal

pub loop-channel-preserved : goal.loop-channel-preserved
loop-channel-preserved c =
    let value : to_z w64 (of_z w64 c.value.result) ≡ value_at c.args.samples.now.rows c.args.sample c.loop-channel.channel = search (rules, c.value.ensures) in
    joined-next c.args.text.now.items c.loop-channel.text.items c.put_value.new.text.items (value_in_line c.args.samples.now.rows c.args.sample) c.loop-channel.channel
    c.loop-channel.invariant (c.in_ok-put_value.ensures ∙ ap (λ (x : ℤ). c.loop-channel.text.items ++ value_text c.loop-channel.channel x) value)

pub returns : goal.returns
returns c =
    let all : c.loop-channel.channel ≡ c.args.samples.now.channels = omega (arith, c.loop-channel-test.false, c.loop-channel.auto.channel-end, c.channels-channel-end.ensures.value) in
    line-ended c.put.result c.args.text.now.items c.loop-channel.text.items c.put.new.text.items (joined c.args.samples.now.channels (value_in_line c.args.samples.now.rows c.args.sample)) (codes "\n")
    (c.loop-channel.invariant ∙ ap (λ (n : ℕ). c.args.text.now.items ++ joined n (value_in_line c.args.samples.now.rows c.args.sample)) all) c.put.ensures
