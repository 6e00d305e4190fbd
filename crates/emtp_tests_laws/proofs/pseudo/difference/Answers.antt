use Rattle.std.proofs.Common.{ap, List, length, slice_get}
use Rattle.emtp_case.specs.declared.branch.Branch.{Branch}
use Rattle.emtp_case.specs.declared.branch.Pseudo.{Pseudo}
use Rattle.emtp_tests_laws.proofs.pseudo.difference.Goals as goal

pub walk-found-requires : goal.walk-found-requires
walk-found-requires c =
    let x : Pseudo = record { line = 4; «from» = 1; to = 0; reactor = c.args.reactor; first = 0; count = length c.args.points.now } in
    (x, ap (λ (bs : List Branch). slice_get bs 0) c.in_ok-case.ensures)
