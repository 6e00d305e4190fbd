use Rattle.emtp_phasor_text.specs.Texts.{answer_text}
use Rattle.emtp_phasor_text.proofs.Pieces.{at_last}
use Rattle.emtp_phasor_text.proofs.texts.put_answer.Goals as goal

pub returns-in_ok-put-in-Refused : goal.returns-in_ok-put-in-Refused
unfolding answer_text
returns-in_ok-put-in-Refused c =
    rw c.in-Refused.is (at_last c.put_number.result c.args.text.now.items _ _ _ _ c.in_ok-put-in-Refused.ensures c.put_number.ensures)
