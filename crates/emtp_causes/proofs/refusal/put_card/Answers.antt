use Rattle.emtp_causes.proofs.Chains.{one, then, whole}
use Rattle.emtp_causes.specs.Refusal.{refused_card}
use Rattle.emtp_causes.proofs.refusal.put_card.Goals as goal

pub returns : goal.returns
unfolding refused_card
returns c = whole (then (then (then (then (then (then (then (then (one c.in_ok-put_legend.ensures) (one c.in_ok-put_line.ensures)) (one c.in_ok-put_mark.ensures)) (one c.in_ok-put_cause.ensures)) (one c.in_ok-put.ensures)) (one c.in_ok-put_number.ensures)) (one c.in_ok-put-2.ensures)) (one c.in_ok-put_kind.ensures)) (one c.in_ok-put-3.ensures))
