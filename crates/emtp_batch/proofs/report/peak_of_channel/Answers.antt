use Rattle.std.proofs.Common.{◌∙◌, ap, arith, length, pos, w64}
use Rattle.std.proofs.lemmas.Int.{to_z_pos}
use Rattle.emtp_batch.proofs.Peaks.{greatest_small}
use Rattle.emtp_batch.proofs.report.peak_of_channel.Goals as goal

pub overflow_cast-result : goal.overflow_cast-result
overflow_cast-result c = omega (arith, c.greatest.ensures.value, greatest_small c.args.samples.now.rows c.args.place (length c.args.samples.now.rows) c.requires.in_range)

pub returns : goal.returns
returns c =
    let rows = c.args.samples.now.rows in
    to_z_pos w64 c.greatest.result (omega (arith, c.greatest.ensures.value, greatest_small rows c.args.place (length rows) c.requires.in_range)) ∙ ap pos c.greatest.ensures.value
