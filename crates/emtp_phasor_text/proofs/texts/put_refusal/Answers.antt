use Rattle.emtp_phasor_text.specs.Texts.{refusal_note}
use Rattle.emtp_phasor_text.proofs.Pieces.{at_last, one_more}
use Rattle.emtp_phasor_text.proofs.texts.put_refusal.Goals as goal

pub returns : goal.returns
unfolding refusal_note
returns c =
    let old = c.args.text.now.items in
    let number = rw c.refusal_number.ensures at c.in_ok-put_number-2.ensures in
    let name = rw c.refusal_name.ensures at c.in_ok-put-4.ensures in
    let one = one_more old _ _ _ _ c.in_ok-put.ensures c.in_ok-put_number.ensures in
    let two = one_more old _ _ _ _ one c.in_ok-put-2.ensures in
    let three = one_more old _ _ _ _ two number in
    let four = one_more old _ _ _ _ three c.in_ok-put-3.ensures in
    let five = one_more old _ _ _ _ four name in
    at_last c.put-5.result old _ _ _ _ five c.put-5.ensures
