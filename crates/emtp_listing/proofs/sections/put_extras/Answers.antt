use Rattle.std.proofs.Common.{ap}
use Rattle.emtp_case.specs.declared.control.Extra.{Extra}
use Rattle.emtp_listing.specs.ControlLines.{extra_lines}
use Rattle.emtp_listing.specs.Lines.{lines_text}
use Rattle.emtp_listing.proofs.Chains.{retext}
use Rattle.emtp_listing.proofs.Loops.{group-more}
use Rattle.emtp_listing.proofs.sections.put_extras.Goals as goal

pub loop-extra-preserved : goal.loop-extra-preserved
loop-extra-preserved c =
    group-more (extra_lines c.args.parts.now.vars c.args.parts.now.points) c.args.parts.now.extras c.as_slice-extra-items.result.now c.loop-extra.extra-index _
    c.as_slice-extra-items.ensures c.loop-extra-test.true c.loop-extra.invariant (retext (ap (λ (x : Extra). lines_text (extra_lines c.args.parts.now.vars c.args.parts.now.points x)) c.extra-item.is) c.in_ok-put_extra.ensures)
