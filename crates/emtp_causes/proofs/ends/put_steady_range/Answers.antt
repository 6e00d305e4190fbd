use Rattle.emtp_causes.proofs.Chains.{one, then, whole}
use Rattle.emtp_causes.specs.Ends.{steady_range_text}
use Rattle.emtp_causes.proofs.ends.put_steady_range.Goals as goal

pub returns : goal.returns
unfolding steady_range_text
returns c = whole (then (then (one c.in_ok-put.ensures) (one c.in_ok-put-2.ensures)) (one c.in_ok-put-3.ensures))
