use Rattle.std.proofs.Common.{FitsSigned, arith, rules}
use mir.Syntax.{w128}
use Rattle.std.proofs.lemmas.Int.{ints, to_z-of_z}
use Rattle.emtp_pseudo.proofs.segment.Segment.next.Goals as goal

pub returns-then-is_above : goal.returns-then-is_above
returns-then-is_above c = search rules

pub returns-then-is_below : goal.returns-then-is_below
returns-then-is_below c =
    let y : FitsSigned w128 c.args.y = c.ranges.y in
    let above = simp to_z-of_z at c.is_above.ensures in
    let below = simp to_z-of_z at c.is_below.ensures in
    rw (← above, c.if-is_above.false, ← below, c.if-is_below.true) (omega (arith, ints, c.requires))

pub returns-else-is_below : goal.returns-else-is_below
returns-else-is_below c =
    let y : FitsSigned w128 c.args.y = c.ranges.y in
    let above = simp to_z-of_z at c.is_above.ensures in
    let below = simp to_z-of_z at c.is_below.ensures in
    rw (← above, c.if-is_above.false, ← below, c.if-is_below.false) (omega (arith, ints, c.requires))
