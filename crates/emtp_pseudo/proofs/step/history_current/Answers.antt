use Rattle.std.proofs.Common.{◌∙◌, FitsSigned, rules}
use mir.Syntax.{w128}
use Rattle.std.proofs.lemmas.Int.{to_z-of_z}
use Rattle.emtp_pseudo.proofs.step.history_current.Goals as goal

pub returns-else-reactor-clause-value : goal.returns-else-reactor-clause-value
returns-else-reactor-clause-value c =
    let r : FitsSigned w128 c.resistor_history.result = search rules in
    rw c.if-reactor.false (to_z-of_z w128 c.resistor_history.result r ∙ c.resistor_history.ensures.value c.args.old.now)
