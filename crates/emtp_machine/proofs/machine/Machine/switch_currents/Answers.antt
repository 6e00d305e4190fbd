use Rattle.std.proofs.Common.{◌∙◌, ap, length}
use Rattle.emtp_case.specs.declared.case.Parts.{Parts}
use Rattle.emtp_machine.proofs.Reading.{live}
use Rattle.emtp_machine.proofs.machine.Machine.switch_currents.Goals as goal

pub returns-clause-value : goal.returns-clause-value
returns-clause-value c =
    let m = c.self.inside in
    let here = live c.args.self.now m.case.now.parts m.network m.row.items m.samples m.made m.end c.self.view_is c.self.invariant c.requires.running in
    c.currents.ensures.value ∙ here.stands.switch_currents

pub returns-clause-each : goal.returns-clause-each
returns-clause-each c =
    let m = c.self.inside in
    let here = live c.args.self.now m.case.now.parts m.network m.row.items m.samples m.made m.end c.self.view_is c.self.invariant c.requires.running in
    c.currents.ensures.each ∙ ap (λ (p : Parts). length p.switches) here.case_is
