use mir.Syntax.{w128}
use Rattle.std.proofs.lemmas.Int.{to_z-of_z}
use Rattle.emtp_phasor_text.specs.Texts.{steady_end_note}
use Rattle.emtp_phasor_text.proofs.Pieces.{at_last, one_more}
use Rattle.emtp_phasor_text.proofs.texts.put_end.Goals as goal

pub returns : goal.returns
unfolding steady_end_note
returns c =
    let old = c.args.text.now.items in
    let cause = rw (to_z-of_z w128 c.args.measured c.ranges.measured) at c.in_ok-put_cause.ensures in
    at_last c.put-2.result old _ _ _ _ (one_more old _ _ _ _ c.in_ok-put.ensures cause) c.put-2.ensures
