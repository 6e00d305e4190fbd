use Rattle.std.proofs.Common.{rules, FitsSigned, to_z, of_z, ◌∙◌}
use mir.Syntax.{w64, w128}
use Rattle.std.proofs.lemmas.Int.{to_z-of_z}
use Rattle.emtp_comtrade.proofs.Lines.{raw-close}
use Rattle.emtp_comtrade.proofs.data.raw_value.Goals as goal

pub returns-clause-value : goal.returns-clause-value
returns-clause-value c =
    let value = c.from.ensures ∙ to_z-of_z w64 c.args.value c.ranges.value in
    let multiplier = c.from-2.ensures ∙ to_z-of_z w64 c.args.multiplier c.ranges.multiplier in
    let a : FitsSigned w128 c.from.result = search rules in
    let b : FitsSigned w128 c.from-2.result = search rules in
    let r : FitsSigned w128 c.near.result = search rules in
    to_z-of_z w128 c.near.result r ∙ (rw (to_z-of_z w128 c.from.result a, to_z-of_z w128 c.from-2.result b, value, multiplier) at c.near.ensures.value)

pub returns-clause-close : goal.returns-clause-close
returns-clause-close c = raw-close c.args.value c.args.multiplier (to_z w128 (of_z w128 c.near.result)) c.requires (returns-clause-value c)
