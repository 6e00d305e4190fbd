use Rattle.emtp_warnings.proofs.Adding.{then}
use Rattle.emtp_warnings.proofs.records.add_switch.Goals as goal

pub returns : goal.returns
returns c = then (then c.in_ok-add_ends.ensures c.in_ok-add_times.ensures) c.in_ok-add_beside.ensures
