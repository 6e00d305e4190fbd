use Rattle.emtp_causes.proofs.Chains.{one, then, whole}
use Rattle.emtp_causes.specs.Refusal.{missing_line}
use Rattle.emtp_causes.proofs.refusal.put_missing.Goals as goal

pub returns : goal.returns
unfolding missing_line
returns c = whole (then (then (then (then (one c.in_ok-put.ensures) (one c.in_ok-put_number.ensures)) (one c.in_ok-put-2.ensures)) (one c.in_ok-put_kind.ensures)) (one c.in_ok-put-3.ensures))
