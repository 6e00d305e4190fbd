-- What is held of one pseudo-nonlinear branch: its segment by its number, and its last moment.
use Rattle.std.specs.Prelude.{ℤ}
use Rattle.emtp_case.specs.Branch.{points_of}
use Rattle.emtp_case.specs.declared.branch.Pseudo.{Pseudo}
use Rattle.emtp_case.specs.declared.branch.PseudoState.{PseudoState}
use Rattle.emtp_case.specs.declared.case.Parts.{Parts}
use Rattle.emtp_pseudo.specs.Segment.{segment_of}
use Rattle.emtp_pseudo.specs.declared.moment.Moment.{Moment}
use Rattle.emtp_pseudo.specs.declared.segment.Segment.{Segment}

-- the segment of a branch with this number
abbrev pub segment_in : Parts → Pseudo → ℤ → Segment
segment_in case x k = segment_of x.reactor case.run.dt (points_of case.points x.first x.count) k

-- a state at a voltage
abbrev pub moment_at : ℤ → PseudoState → Moment
moment_at v state = record { state = state; voltage = v }
