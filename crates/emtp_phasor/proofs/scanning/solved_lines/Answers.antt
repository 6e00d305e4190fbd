use Rattle.std.proofs.Common.{◌≡◌, ◌∙◌, to_z, of_z, arith}
use mir.Syntax.{w64}
use Rattle.std.proofs.lemmas.Int.{ints}
use Rattle.emtp_phasor.proofs.Lines.{lines_all, lines_more}
use Rattle.emtp_phasor.proofs.scanning.solved_lines.Goals as goal

pub loop-k-preserved : goal.loop-k-preserved
loop-k-preserved g c =
    let range = c.frequency_at-freq.ensures.range in
    let narrow : to_z w64 (of_z w64 c.frequency_at-freq.result) ≡ c.frequency_at-freq.result = omega (arith, ints, range.least, range.most) in
    record {
      ready = c.answer_at-answer.ensures.ready;
      lines_are = lines_more c.args.probed.case.now.parts c.args.probed.probe.now c.args.probed.span.first c.args.probed.span.by c.loop-k.k (to_z w64 (of_z w64 c.frequency_at-freq.result)) c.answer_at-answer.result c.loop-k.lines.items c.push.new.self.items (narrow ∙ c.frequency_at-freq.ensures.value) c.answer_at-answer.ensures.value c.in_ok-push.ensures.items c.loop-k.invariant.lines_are;
    }

pub returns : goal.returns
returns g c =
    lines_all c.args.probed.case.now.parts c.args.probed.probe.now c.args.probed.span.first c.args.probed.span.last c.args.probed.span.by c.loop-k.k c.frequency_count-k-end.result c.loop-k.lines.items c.frequency_count-k-end.ensures c.loop-k.auto.k-end (omega (arith, c.loop-k-test.false)) c.loop-k.invariant.lines_are
