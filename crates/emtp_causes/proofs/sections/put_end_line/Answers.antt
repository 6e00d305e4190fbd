use Rattle.emtp_causes.proofs.Chains.{one, then, whole}
use Rattle.emtp_causes.specs.Sections.{end_line}
use Rattle.emtp_causes.proofs.sections.put_end_line.Goals as goal

pub returns : goal.returns
unfolding end_line
returns c = whole (then (then (then (then (then (one c.in_ok-put.ensures) (one c.in_ok-put-2.ensures)) (one c.in_ok-put-3.ensures)) (one c.in_ok-put_number.ensures)) (one c.in_ok-put_blank.ensures)) (one c.in_ok-put-4.ensures))
