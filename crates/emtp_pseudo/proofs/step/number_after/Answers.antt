use Rattle.std.proofs.Common.{FitsSigned, ◌∙◌, rules, arith}
use mir.Syntax.{w32, w128}
use Rattle.std.proofs.lemmas.Int.{ints, to_z-of_z}
use Rattle.emtp_pseudo.proofs.step.number_after.Goals as goal

pub returns-else-reactor : goal.returns-else-reactor
returns-else-reactor c =
    let v : FitsSigned w128 c.args.v = c.ranges.v in
    let k : FitsSigned w32 c.args.old.now.state.segment = omega (arith, ints, c.requires.segment) in
    let r : FitsSigned w32 c.next-else-reactor.result = search rules in
    rw c.if-reactor.false (to_z-of_z w32 c.next-else-reactor.result r ∙ (simp to_z-of_z at c.next-else-reactor.ensures))
