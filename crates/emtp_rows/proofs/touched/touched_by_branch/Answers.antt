use Rattle.std.proofs.Common.{rules}
use Rattle.emtp_rows.proofs.touched.touched_by_branch.Goals as goal

pub returns-clause-at_from : goal.returns-clause-at_from
returns-clause-at_from c = search rules

pub returns-clause-at_to : goal.returns-clause-at_to
returns-clause-at_to c = search rules
