use Rattle.std.proofs.Common.{ap, List}
use Rattle.emtp_case.specs.declared.branch.Branch.{Branch}
use Rattle.std.specs.List.{slice_get}
use Rattle.emtp_tests_laws.proofs.line.difference.Goals as goal

pub walk-found-requires : goal.walk-found-requires
walk-found-requires c = (c.args.line, ap (λ (bs : List Branch). slice_get bs 0) c.in_ok-case.ensures)
