use Rattle.emtp_listing.specs.NetworkLines.{switch_line}
use Rattle.emtp_listing.proofs.Loops.{line-more}
use Rattle.emtp_listing.proofs.sections.put_switches.Goals as goal

pub loop-switch-preserved : goal.loop-switch-preserved
loop-switch-preserved c =
    line-more (switch_line c.args.parts.now.nodes c.args.parts.now.vars) c.args.parts.now.switches c.as_slice-switch-items.result.now c.loop-switch.switch-index _
    c.as_slice-switch-items.ensures c.loop-switch-test.true c.loop-switch.invariant c.in_ok-put_switch.ensures c.in_ok-put_end.ensures
