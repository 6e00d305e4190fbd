use Rattle.std.proofs.Common.{◌<◌, ◌∙◌, length, subst, sym, FitsSigned, rules}
use mir.Syntax.{w64}
use Rattle.std.proofs.lemmas.Int.{to_z-of_z}
use Rattle.emtp_case.specs.declared.case.Parts.{Parts}
use Rattle.emtp_machine.proofs.Reading.{live}
use Rattle.emtp_machine.specs.held.Machine.{history_of}
use Rattle.emtp_machine.proofs.machine.Machine.branch_current.Goals as goal

pub branch_current-requires : goal.branch_current-requires
branch_current-requires c =
    let m = c.self.inside in
    let here = live c.args.self.now m.case.now.parts m.network m.row.items m.samples m.made m.end c.self.view_is c.self.invariant c.requires.running in
    subst (λ (p : Parts). c.args.branch < length p.branches) (sym here.case_is) c.requires.branch

pub returns : goal.returns
returns c =
    let m = c.self.inside in
    let here = live c.args.self.now m.case.now.parts m.network m.row.items m.samples m.made m.end c.self.view_is c.self.invariant c.requires.running in
    let fits : FitsSigned w64 c.branch_current.result = search rules in
    to_z-of_z w64 c.branch_current.result fits ∙ c.branch_current.ensures (history_of c.args.self.now).records here.stands
