use Rattle.emtp_deck.proofs.Keeping.{on_ok, with_more_switches}
use Rattle.emtp_deck.proofs.switches.add_switch.Goals as goal

pub returns-clause-filling : goal.returns-clause-filling
returns-clause-filling c =
    let draft = rw c.switch_at-switch.ensures at c.in_ok-add_switch.ensures.ok in
    let asked = rw c.len-at.ensures at c.in_ok-ask.ensures.ok in
    on_ok c.ask_status.result (λ e. with_more_switches c.args.filling.now c.add_switch.new.self c.ask.new.channels c.ask_status.new.channels c.args.card.now c.requires.filling c.requires.asked draft asked (rw c.len-at.ensures at e)) c.ask_status.ensures.ok
