use Rattle.std.proofs.Common.{◌≡◌, All, length}
use Rattle.emtp_case.specs.held.Branch.{IsBranch}
use Rattle.emtp_case.specs.held.Sizes.{sizes_of}
use Rattle.emtp_inspect.specs.Growing.{greatest, greatest_from}
use Rattle.emtp_inspect.proofs.growing.greatest.Given as goal

-- the greatest of all is that of the rest and of what was found before it
abbrev pub invariant-loop-rest : goal.invariant-loop-rest
invariant-loop-rest l =
    All (IsBranch l.case.parts.run (sizes_of l.case.parts) l.case.parts.points) l.rest
    × (greatest_from l.case.parts l.time l.here l.name l.best l.rest ≡ greatest l.case.parts l.time l.here l.name)

abbrev pub decreases-loop-rest : goal.decreases-loop-rest
decreases-loop-rest l = length l.rest
