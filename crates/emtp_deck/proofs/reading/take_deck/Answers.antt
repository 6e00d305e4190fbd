use Rattle.std.proofs.Common.{◌∙◌, Ok, ap, subst, sym}
use Rattle.emtp_case.specs.held.Case.{DefinesEach}
use Rattle.emtp_deck.specs.held.Filling.{made_of}
use Rattle.emtp_deck.proofs.ControlWhole.{control_sensible, control_whole_is}
use Rattle.emtp_deck.proofs.Keeping.{on_ok}
use Rattle.emtp_deck.proofs.WholeDeck.{completed, cut_off, stopped, stored_within}
use Rattle.emtp_sense.proofs.CardNames.{has_nodes}
use Rattle.emtp_deck.proofs.reading.take_deck.Goals as goal

pub add_control-requires-clause-sensible : goal.add_control-requires-clause-sensible
add_control-requires-clause-sensible c = rw c.requires.variables (control_sensible _ c.args.deck.now c.args.place.now c.requires.sound c.requires.whole c.requires.accepted.control)

pub take_sections-requires-clause-control : goal.take_sections-requires-clause-control
take_sections-requires-clause-control c = rw (c.in_ok-add_control.ensures.nodes, c.in_ok-add_control.ensures.variables) c.in_ok-add_control.ensures.ok

pub take_sections-requires-clause-nodes : goal.take_sections-requires-clause-nodes
take_sections-requires-clause-nodes c = rw (c.in_ok-add_control.ensures.nodes, c.requires.nodes) (has_nodes c.args.deck.now c.args.place.now)

pub add_sources_and_channels-requires-clause-stored : goal.add_sources_and_channels-requires-clause-stored
add_sources_and_channels-requires-clause-stored c =
    let few = rw c.in-After.is at c.requires.accepted.few in
    let made = rw (c.in_ok-add_control.ensures.nodes, c.in_ok-add_control.ensures.variables, c.requires.nodes, c.requires.variables, c.in-After.is) at c.in-Ok.ensures.value in
    stored_within c.args.deck.now c.in-After.field-0 (made_of c.take_sections.new.filling) few made

pub add_sources_and_channels-requires-clause-control : goal.add_sources_and_channels-requires-clause-control
add_sources_and_channels-requires-clause-control c =
    let none = rw c.in-After.is at c.requires.accepted.control in
    let made = rw (c.in_ok-add_control.ensures.nodes, c.in_ok-add_control.ensures.variables, c.requires.nodes, c.requires.variables, c.in-After.is) at c.in-Ok.ensures.value in
    control_whole_is c.take_sections.new.filling c.args.deck.now c.in-After.field-0 c.in-Ok.ensures.filling c.requires.whole none made

pub returns-in-After-clause-ok : goal.returns-in-After-clause-ok
returns-in-After-clause-ok c =
    let few = rw c.in-After.is at c.requires.accepted.few in
    let none = rw c.in-After.is at c.requires.accepted.control in
    let made = rw (c.in_ok-add_control.ensures.nodes, c.in_ok-add_control.ensures.variables, c.requires.nodes, c.requires.variables, c.in-After.is) at c.in-Ok.ensures.value in
    on_ok c.add_sources_and_channels.result (λ is. rw c.in-After.is (completed c.args.line c.args.deck.now c.in-After.field-0 (made_of c.take_sections.new.filling) few none made ∙ ap Ok (sym is))) c.add_sources_and_channels.ensures.ok

pub returns-in-After-clause-each : goal.returns-in-After-clause-each
returns-in-After-clause-each c =
    let none = rw c.in-After.is at c.requires.accepted.control in
    let made = rw (c.in_ok-add_control.ensures.nodes, c.in_ok-add_control.ensures.variables, c.requires.nodes, c.requires.variables, c.in-After.is) at c.in-Ok.ensures.value in
    let whole = control_whole_is c.take_sections.new.filling c.args.deck.now c.in-After.field-0 c.in-Ok.ensures.filling c.requires.whole none made in
    on_ok c.add_sources_and_channels.result (λ is. subst DefinesEach (sym is) whole.each) c.add_sources_and_channels.ensures.ok

pub returns-in_default : goal.returns-in_default
returns-in_default c =
    let made = rw (c.in_ok-add_control.ensures.nodes, c.in_ok-add_control.ensures.variables, c.requires.nodes, c.requires.variables) at c.in-Ok.ensures.value in
    record {
      ok = tt;
      each = tt;
      bad = cut_off c.args.line c.args.deck.now c.args.place.now c.unfinished.result (made_of c.take_sections.new.filling) c.requires.accepted.few c.requires.accepted.control made c.unfinished.ensures;
    }

pub returns-in-Err-clause-bad : goal.returns-in-Err-clause-bad
returns-in-Err-clause-bad c =
    let value = rw (c.in_ok-add_control.ensures.nodes, c.in_ok-add_control.ensures.variables, c.requires.nodes, c.requires.variables) at c.in-Err.ensures.value in
    stopped c.args.line c.args.deck.now c.args.place.now c.in-Err.refused (made_of c.take_sections.new.filling) c.requires.accepted.few c.requires.accepted.control value
