use Rattle.emtp_causes.proofs.Chains.{one, then, whole}
use Rattle.emtp_causes.specs.Notes.{this_line}
use Rattle.emtp_causes.proofs.notes.put_this_line.Goals as goal

pub returns : goal.returns
unfolding this_line
returns c = whole (then (then (then (then (then (then (one c.in_ok-put.ensures) (one c.in_ok-put-2.ensures)) (one c.in_ok-put-3.ensures)) (one c.in_ok-put-4.ensures)) (one c.in_ok-put-5.ensures)) (one c.in_ok-put-6.ensures)) (one c.in_ok-put-7.ensures))
