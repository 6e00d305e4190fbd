use Rattle.std.proofs.Common.{◌≡◌, ◌+◌, length}
use Rattle.emtp_case.specs.StepRecord.{latest}
use Rattle.emtp_worth.specs.Nearest.{nearest}
use Rattle.emtp_worth.proofs.nearest.nearest_at_end.Given as goal

-- where the last step is made, its record is read
abbrev pub invariant-steps : goal.invariant-steps
invariant-steps g l = record {
  case_is : g.R.Run.case l.run ≡ l.case.parts;
  whole_is : g.R.Run.whole l.run ≡ g.R.Run.whole l.fn.run;
  found_is : length (g.R.Run.records l.run) ≡ l.last + 1 → l.found ≡ nearest l.case.parts l.node (latest (g.R.Run.records l.run));
}

abbrev pub decreases-steps : goal.decreases-steps
decreases-steps g l = g.R.Run.left l.run
