use Rattle.std.proofs.Common.{◌∙◌, sym, ap, subst, All, length}
use Rattle.emtp_admittance.specs.held.Admittances.{IsSmallPort}
use Rattle.emtp_phasor.specs.Steady.{steady_right}
use Rattle.emtp_case.specs.declared.case.Case.{Case}
use Rattle.emtp_phasor.proofs.doubled_system.System.over.Goals as goal

pub with_ports-requires-clause-count : goal.with_ports-requires-clause-count
with_ports-requires-clause-count c = ap length c.deref.ensures.value ∙ c.requires.count

pub with_ports-requires-clause-small : goal.with_ports-requires-clause-small
with_ports-requires-clause-small c = subst (All IsSmallPort) (sym c.deref.ensures.value) c.requires.small

pub returns-clause-ready : goal.returns-clause-ready
returns-clause-ready c = record {
  resting = c.requires.resting;
  right_is = c.in_ok-right.ensures ∙ ap (λ (case : Case). steady_right case.parts) c.with_ports.ensures.case;
  ports_count = c.requires.count;
  workspace = c.in_ok-workspace.ensures;
}
