use Rattle.std.proofs.Common.{◌≡◌, drop}
use Rattle.emtp_admittance.specs.held.Ports.{ArePorts}
use Rattle.emtp_admittance.specs.Refusals.{branch_refused, least_branch, least_refusal, sooner}
use Rattle.emtp_admittance.proofs.ports.put_ports.Given as goal

abbrev pub invariant-loop-at : goal.invariant-loop-at
invariant-loop-at l = record {
  refused : least_branch l.case.parts l.freq ≡ sooner l.best (least_refusal (branch_refused l.freq) (drop l.at l.case.parts.branches));
  ports : ArePorts l.case.parts l.freq l.out l.at;
}
