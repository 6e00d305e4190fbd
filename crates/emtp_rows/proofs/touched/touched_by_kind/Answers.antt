use Rattle.std.proofs.Common.{rules}
use Rattle.emtp_rows.proofs.touched.touched_by_kind.Goals as goal

pub returns-clause-agrees : goal.returns-clause-agrees
returns-clause-agrees c = search rules
