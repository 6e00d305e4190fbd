use Rattle.emtp_elim.proofs.Writing.{clear_replicate, written_nothing}
use Rattle.emtp_elim.proofs.work_row.WorkRow.open.Goals as goal

pub returns : goal.returns
returns c = clear_replicate c.args.size c.in_ok-numbers.numbers.items c.in_ok-numbers.ensures

pub invariant_of-result : goal.invariant_of-result
invariant_of-result c = written_nothing c.args.size c.args.size c.in_ok-numbers.numbers.items (clear_replicate c.args.size c.in_ok-numbers.numbers.items c.in_ok-numbers.ensures)
