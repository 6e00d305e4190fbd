use Rattle.emtp_causes.proofs.Chains.{one, then, whole}
use Rattle.emtp_causes.specs.Ends.{tacs_pivot_text}
use Rattle.emtp_causes.proofs.ends.put_tacs_pivot.Goals as goal

pub returns : goal.returns
unfolding tacs_pivot_text
returns c = whole (then (then (then (then (one c.in_ok-put.ensures) (one c.in_ok-put-2.ensures)) (one c.in_ok-put-3.ensures)) (one c.in_ok-put_step.ensures)) (one c.in_ok-put-4.ensures))
