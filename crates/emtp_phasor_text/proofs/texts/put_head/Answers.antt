use mir.Syntax.{w64, w128}
use Rattle.std.proofs.lemmas.Int.{to_z-of_z}
use Rattle.emtp_phasor_text.specs.Texts.{steady_line}
use Rattle.emtp_phasor_text.proofs.Pieces.{at_last, one_more}
use Rattle.emtp_phasor_text.proofs.texts.put_head.Goals as goal

pub returns : goal.returns
unfolding steady_line
returns c =
    let old = c.args.text.now.items in
    let freq = rw (to_z-of_z w64 c.args.freq c.ranges.freq) at c.in_ok-put_fixed.ensures in
    let residual = rw (to_z-of_z w128 c.args.residual c.ranges.residual) at c.in_ok-put_number.ensures in
    let one = one_more old _ _ _ _ c.in_ok-put.ensures freq in
    let two = one_more old _ _ _ _ one c.in_ok-put-2.ensures in
    let three = one_more old _ _ _ _ two residual in
    at_last c.put-3.result old _ _ _ _ three c.put-3.ensures
