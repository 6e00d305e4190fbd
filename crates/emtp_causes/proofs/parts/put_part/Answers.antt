use Rattle.emtp_causes.proofs.Chains.{one, then, whole}
use Rattle.emtp_causes.specs.Parts.{marked_part}
use Rattle.emtp_causes.proofs.parts.put_part.Goals as goal

pub returns : goal.returns
unfolding marked_part
returns c = whole (then (then (then (one c.in_ok-put_line.ensures) (one c.in_ok-put_mark.ensures)) (one c.in_ok-put.ensures)) (one c.in_ok-put-2.ensures))
