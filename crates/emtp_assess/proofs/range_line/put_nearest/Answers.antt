use Rattle.std.proofs.Common.{◌∙◌, ap, sym, length}
use Rattle.emtp_case.specs.StepRecord.{latest}
use Rattle.emtp_case.specs.declared.case.Parts.{Parts}
use Rattle.emtp_machine.specs.History.{history}
use Rattle.emtp_worth.specs.Nearest.{nearest}
use Rattle.emtp_assess.proofs.Ranging.{reached_put}
use Rattle.emtp_assess.proofs.Stepping.{rest_live}
use Rattle.emtp_assess.proofs.range_line.put_nearest.Goals as goal

pub nearest_at_end-reached-requires-clause-live : goal.nearest_at_end-reached-requires-clause-live
nearest_at_end-reached-requires-clause-live g c = rest_live c.in_ok-machine.machine c.in_ok-machine.ensures.rest

pub nearest_at_end-reached-requires-clause-last : goal.nearest_at_end-reached-requires-clause-last
nearest_at_end-reached-requires-clause-last g c =
    ap (λ (p : Parts). length (history p).records) c.in_ok-machine.ensures.case ∙ sym c.requires.made

pub returns : goal.returns
returns g c =
    let case = c.args.case.now.parts in
    reached_put c.put_some_reached.result case (history case) c.args.node c.args.made c.as_slice.result.now c.nearest_at_end-reached.result c.args.text.now.items c.put_some_reached.new.text.items
    c.as_slice.ensures c.requires.made
    (c.nearest_at_end-reached.ensures ∙ ap (λ (p : Parts). nearest case c.args.node (latest (history p).records)) c.in_ok-machine.ensures.case)
    c.put_some_reached.ensures
