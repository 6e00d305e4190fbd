use Rattle.std.proofs.Common.{◌∙◌, ap, rules, sym}
use Rattle.emtp_deck.specs.held.Filling.{made_of}
use Rattle.emtp_deck.specs.Made.{Made}
use Rattle.emtp_deck.proofs.Asking.{branches_ask, control_is, tacs_outputs_ask}
use Rattle.emtp_deck.proofs.reading.take_sections.Goals as goal

pub take_branches-requires-clause-entries : goal.take_branches-requires-clause-entries
take_branches-requires-clause-entries c =
    let deck = c.args.deck.now in
    let f = c.args.filling.now in
    let outputs = rw c.as_slice.ensures at c.in_ok-take_tacs_outputs.ensures.value in
    let asks = tacs_outputs_ask (made_of f) (made_of c.take_tacs_outputs.new.filling) deck.control.outputs outputs in
    let run = asks.run ∙ ap (λ (m : Made). m.parts.run) c.requires.control ∙ (control_is f.nodes.keys f.variables.keys deck).run in
    rw (c.as_slice-2.ensures, c.as_slice-3.ensures, run) c.requires.whole.branches

pub take_branches-requires-clause-nodes : goal.take_branches-requires-clause-nodes
take_branches-requires-clause-nodes c =
    let outputs = rw c.as_slice.ensures at c.in_ok-take_tacs_outputs.ensures.value in
    let asks = tacs_outputs_ask (made_of c.args.filling.now) (made_of c.take_tacs_outputs.new.filling) c.args.deck.now.control.outputs outputs in
    let keys = c.in_ok-take_tacs_outputs.ensures.filling.nodes ∙ asks.nodes ∙ sym c.requires.filling.nodes in
    rw (c.as_slice-3.ensures, keys) c.requires.nodes.branches

pub take_switches-requires-clause-nodes : goal.take_switches-requires-clause-nodes
take_switches-requires-clause-nodes c =
    let deck = c.args.deck.now in
    let outputs = rw c.as_slice.ensures at c.in_ok-take_tacs_outputs.ensures.value in
    let asks = tacs_outputs_ask (made_of c.args.filling.now) (made_of c.take_tacs_outputs.new.filling) deck.control.outputs outputs in
    let branches = rw (c.as_slice-2.ensures, c.as_slice-3.ensures) at c.in_ok-take_branches.ensures.value in
    let more = branches_ask deck.points (made_of c.take_tacs_outputs.new.filling) (made_of c.take_branches.new.filling) deck.branches branches in
    let keys = c.in_ok-take_branches.ensures.filling.nodes ∙ more.nodes ∙ asks.nodes ∙ sym c.requires.filling.nodes in
    rw (c.as_slice-4.ensures, keys) c.requires.nodes.switches

pub returns-in_err-take_branches-clause-value : goal.returns-in_err-take_branches-clause-value
returns-in_err-take_branches-clause-value c = search rules

pub returns-in_err-take_sources-clause-value : goal.returns-in_err-take_sources-clause-value
returns-in_err-take_sources-clause-value c = search rules

pub returns-in_err-take_switches-clause-value : goal.returns-in_err-take_switches-clause-value
returns-in_err-take_switches-clause-value c = search rules

pub returns-clause-value : goal.returns-clause-value
returns-clause-value c = search rules
