use Rattle.std.proofs.Common.{◌∙◌, sym, ap, subst, length, count_by, All}
use Rattle.emtp_case.specs.Switch.{card_times, is_time_switch}
use Rattle.emtp_case.specs.held.Sizes.{sizes_of}
use Rattle.emtp_batch.specs.held.Row.{AreTimesInRange}
use Rattle.emtp_batch.proofs.CardTimes.{put, pass, all_taken, length-card_times, card_times-in_range}
use Rattle.emtp_batch.proofs.row.card_times.Goals as goal
use Rattle.emtp_batch.proofs.row.card_times.Goals.{in-Some+in_ok-push, in_default}

pub loop-switch-preserved : goal.loop-switch-preserved
loop-switch-preserved c =
    let ss = c.as_slice-switch-items.result.now in
    let old = c.loop-switch.times.items in
    let new = c.match-times.times.items in
    let at = c.loop-switch.switch-index in
    elim c.match-times.branch [
      | in-Some+in_ok-push w ↦ put ss old new at _ w.in-Some.own c.loop-switch-test.true c.loop-switch.invariant (sym c.times.ensures ∙ w.in-Some.is) (ap (λ v. v.items) w.times-is ∙ (w.in_ok-push.ensures {u = tt}).items)
      | in_default w ↦ pass ss old new at _ c.loop-switch-test.true c.loop-switch.invariant (sym c.times.ensures ∙ w.in_default.is) (ap (λ v. v.items) w.times-is)
    ]

pub returns-clause-count : goal.returns-clause-count
returns-clause-count c =
    let all = all_taken c.as_slice-switch-items.result.now c.loop-switch.times.items c.loop-switch.switch-index c.loop-switch.invariant c.loop-switch-test.false in
    ap length all ∙ length-card_times c.as_slice-switch-items.result.now ∙ ap (count_by is_time_switch) c.as_slice-switch-items.ensures

pub returns-clause-in_range : goal.returns-clause-in_range
returns-clause-in_range c =
    let all = all_taken c.as_slice-switch-items.result.now c.loop-switch.times.items c.loop-switch.switch-index c.loop-switch.invariant c.loop-switch-test.false in
    let parts = c.args.case.now.parts in
    let same = all ∙ ap card_times c.as_slice-switch-items.ensures in
    subst (All AreTimesInRange) (sym same) (card_times-in_range (sizes_of parts) parts.switches c.args.case.now.fits.draft.network.switches)
