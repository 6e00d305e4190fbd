use Rattle.std.proofs.Common.{subst, sym}
use Rattle.emtp_case.specs.declared.case.Parts.{Parts}
use Rattle.emtp_pseudo.specs.held.Pseudos.{IsPseudoAt}
use Rattle.emtp_machine.proofs.Reading.{live}
use Rattle.emtp_machine.specs.held.Machine.{history_of}
use Rattle.emtp_machine.proofs.machine.Machine.pseudo.Goals as goal

pub pseudo-requires : goal.pseudo-requires
pseudo-requires c =
    let m = c.self.inside in
    let here = live c.args.self.now m.case.now.parts m.network m.row.items m.samples m.made m.end c.self.view_is c.self.invariant c.requires.running in
    (c.requires.branch.0, subst (λ (p : Parts). IsPseudoAt p c.args.branch c.requires.branch.0) (sym here.case_is) c.requires.branch.1)

pub returns-clause-value : goal.returns-clause-value
returns-clause-value c =
    let m = c.self.inside in
    let here = live c.args.self.now m.case.now.parts m.network m.row.items m.samples m.made m.end c.self.view_is c.self.invariant c.requires.running in
    c.pseudo.ensures.value (history_of c.args.self.now).records here.stands
