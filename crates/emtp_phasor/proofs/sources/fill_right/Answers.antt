use Rattle.std.proofs.Common.{FitsSigned, arith, rules}
use mir.Syntax.{w128}
use Rattle.std.proofs.lemmas.Int.{to_z-of_z}
use Rattle.emtp_phasor.proofs.Sourcing.{right_more, right_all}
use Rattle.emtp_phasor.proofs.sources.fill_right.Goals as goal

pub loop-row-preserved : goal.loop-row-preserved
loop-row-preserved c =
    let fit : FitsSigned w128 c.right_of.result = search rules in
    rw (to_z-of_z w128 c.right_of.result fit) (right_more c.args.network.case.now.parts c.args.network.kinds.now c.loop-row.out c.loop-row.row c.right_of.result (omega (arith, c.loop-row-test.true, c.loop-row.auto.out)) c.right_of.ensures c.loop-row.invariant)

pub returns : goal.returns
returns c = right_all c.args.network.case.now.parts c.args.network.kinds.now c.loop-row.out c.loop-row.row (omega (arith, c.loop-row.auto.out, c.requires.out)) (omega (arith, c.loop-row.auto.row-end, c.loop-row-test.false)) c.loop-row.invariant
