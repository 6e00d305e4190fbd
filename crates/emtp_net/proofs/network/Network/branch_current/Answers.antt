use Rattle.std.proofs.Common.{◌∙◌, sym, subst, length, FitsSigned, rules}
use mir.Syntax.{w64}
use Rattle.std.proofs.lemmas.Int.{to_z-of_z}
use Rattle.emtp_case.specs.StepRecord.{latest}
use Rattle.emtp_net.specs.held.Moving.{AreCurrents}
use Rattle.emtp_net.specs.held.Network.{Net, StandsFor}
use Rattle.emtp_net.proofs.Holding.{seen}
use Rattle.emtp_net.proofs.LineCurrents.{current_at}
use Rattle.emtp_net.proofs.network.Network.branch_current.Goals as goal

pub returns : goal.returns
returns c = λ H stands.
    let s = c.self.inside in
    let now = seen s in
    let stood : StandsFor now H = subst (λ (n : Net). StandsFor n H) (sym c.self.view_is) stands in
    let fits : FitsSigned w64 c.current.result = search rules in
    to_z-of_z w64 c.current.result fits
    ∙ current_at now.case s.branches c.deref.result.now s.made c.args.branch c.current.result H c.current.ensures stood.steps stood.branches
    (subst (λ cs. AreCurrents now.case cs (latest H) (length now.case.branches)) (sym c.deref.ensures.value) stood.currents) stood.line_currents
