use Rattle.std.proofs.Common.{◌+◌, length, subst, sym}
use Rattle.emtp_switch.specs.Groups.{alone, closed_switches, groups}
use Rattle.emtp_switch.specs.held.Groups.{EndWithin}
use Rattle.emtp_switch.proofs.Orders.{kinds_alike, part_alike}
use Rattle.emtp_switch.proofs.Plans.{same_count, switch_ends}
use Rattle.emtp_switch.proofs.laws.kinds_in_any_order.Goals as goal

pub returns : goal.returns
returns c = λ taken moved.
    let p = c.args.case.now.parts in
    let rows = c.args.order.now in
    let n = length rows.nodes in
    let closed = closed_switches c.args.states.now in
    let within : EndWithin p.switches (n + 1) = subst (λ k. EndWithin p.switches (k + 1)) (sym (same_count p rows c.requires.order)) (switch_ends p c.args.case.now.fits) in
    kinds_alike p rows (groups p.switches (alone n) closed) (groups p.switches (alone n) taken) c.requires.order (part_alike p.switches n closed taken within moved)
