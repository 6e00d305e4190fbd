use Rattle.std.proofs.Common.{◌+◌, length, subst, sym}
use Rattle.emtp_switch.specs.Groups.{closed_switches}
use Rattle.emtp_switch.specs.held.Groups.{EndWithin}
use Rattle.emtp_switch.proofs.Meetings.{tied_where_they_meet}
use Rattle.emtp_switch.proofs.Plans.{same_count, switch_ends}
use Rattle.emtp_switch.proofs.Regrouping.{known_within, rows_within}
use Rattle.emtp_switch.proofs.laws.tied_where_known_voltages_meet.Goals as goal

pub returns : goal.returns
returns c =
    let p = c.args.case.now.parts in
    let rows = c.args.order.now in
    let ends : EndWithin p.switches (length rows.nodes + 1) = subst (λ k. EndWithin p.switches (k + 1)) (sym (same_count p rows c.requires.order)) (switch_ends p c.args.case.now.fits) in
    tied_where_they_meet p.switches rows (closed_switches c.args.states.now) ends (known_within rows (rows_within p rows c.requires.order))
