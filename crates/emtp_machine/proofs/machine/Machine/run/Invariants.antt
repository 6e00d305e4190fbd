use Rattle.std.proofs.Common.{◌≡◌, ◌-◌}
use Rattle.emtp_machine.specs.held.Machine.{HasTicked}
use Rattle.emtp_machine.proofs.machine.Machine.run.Given as goal

abbrev pub invariant-steps : goal.invariant-steps
invariant-steps g l = record {
  same_case : l.self.case ≡ l.initial.self.case;
  kept : l.self.capacities ≡ l.initial.self.capacities;
  ticked : HasTicked l.initial.self l.self l.initial.steps l.steps;
}

abbrev pub decreases-steps : goal.decreases-steps
decreases-steps g l = l.self.case.run.steps - l.self.tried
