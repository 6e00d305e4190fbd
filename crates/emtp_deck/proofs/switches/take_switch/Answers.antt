use Rattle.std.proofs.Common.{◌∙◌, sym}
use Rattle.emtp_deck.proofs.Switching.{ready}
use Rattle.emtp_deck.proofs.switches.take_switch.Goals as goal

pub add_switch-requires : goal.add_switch-requires
add_switch-requires c =
    let before = c.requires in
    let is = ready c.args.filling.now c.args.card.now before.filling before.card before.nodes (sym c.switch_fault.ensures ∙ c.in_default.is) in
    record { filling = before.filling; card = before.card; room = is.room; asked = is.asked; control = is.control; ends = is.ends }
