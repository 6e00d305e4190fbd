use Rattle.std.proofs.Common.{sym}
use Rattle.std.proofs.lemmas.List.{map_more}
use Rattle.emtp_line.specs.held.Held.{trio_at_rest}
use Rattle.emtp_line.proofs.rest.trios_at_rest.Goals as goal

pub loop-trio-preserved : goal.loop-trio-preserved
loop-trio-preserved c =
    let trios = c.args.case.now.parts.trios in
    let below = rw c.as_slice-trio-items.ensures at c.loop-trio-test.true in
    let is = rw c.as_slice-trio-items.ensures at c.in_ok-at_rest.ensures in
    rw (c.in_ok-push.ensures.items, c.loop-trio.invariant, is) (sym (map_more (trio_at_rest c.args.case.now.parts.run.dt) trios c.loop-trio.trio-index _ below))
