use Rattle.std.proofs.Common.{ap, arith, length, length-take, refl, subst, sym, take, take_all}
use Rattle.std.proofs.lemmas.List.{length-map}
use Rattle.emtp_case.specs.held.Sizes.{sizes_of}
use Rattle.emtp_case.proofs.Growth.{no_ok}
use Rattle.emtp_deck.specs.ControlFilling.{tacs_source_of}
use Rattle.emtp_deck.proofs.ControlAdding.{map_next}
use Rattle.emtp_deck.proofs.Wanting.{want_left}
use Rattle.emtp_sense.specs.held.ControlSensible.{IsSensibleTacsSource}
use Rattle.emtp_walk.specs.held.Sound.{IsTacsSourceCard}
use Rattle.emtp_deck.proofs.ControlRecords.{source_fits}
use Rattle.emtp_deck.proofs.control_filling.add_tacs_sources.Goals as goal

pub add_tacs_source-requires-clause-fits : goal.add_tacs_source-requires-clause-fits
add_tacs_source-requires-clause-fits c =
    let inv = c.loop-card.invariant in
    let f = c.args.filling.now in
    let switches = c.args.switches.now in
    let card = subst IsTacsSourceCard (sym c.card-item.is) (c.requires.cards c.loop-card.card-index c.card-item.result c.loop-card-test.true) in
    let sensible = subst (IsSensibleTacsSource f.nodes.keys switches f.variables.keys) (sym c.card-item.is) (c.requires.sensible c.loop-card.card-index c.card-item.result c.loop-card-test.true) in
    rw (c.tacs_source_of-source.ensures, inv.nodes, inv.variables, inv.parts)
    (source_fits (sizes_of f.draft.parts) f.nodes.keys switches f.variables.keys c.card-item.result (ap length c.requires.filling.nodes) c.requires.switches (ap length c.requires.filling.variables) card sensible)

pub loop-card-preserved : goal.loop-card-preserved
loop-card-preserved c =
    let before = c.loop-card.invariant in
    let f = c.args.filling.now in
    let more = map_next (tacs_source_of f.nodes.keys c.args.switches.now f.variables.keys) c.args.cards.now c.loop-card.card-index c.card-item.result c.card-item.is c.loop-card-test.true in
    record {
      parts = rw (c.in_ok-add_tacs_source.ensures.ok, before.parts, c.tacs_source_of-source.ensures, before.nodes, before.variables, more) refl;
      nodes = before.nodes;
      variables = before.variables;
      asked = before.asked;
    }

pub returns : goal.returns
returns c = record { ok = rw (take_all c.loop-card.card-index c.args.cards.now c.loop-card-test.false) at c.loop-card.invariant.parts; asked = c.loop-card.invariant.asked; err = tt }

pub returns-in_err-add_tacs_source : goal.returns-in_err-add_tacs_source
returns-in_err-add_tacs_source c = let r = c.from_residual in record { ok = no_ok _ r.result r.ensures.0; asked = c.loop-card.invariant.asked; err = want_left r.result _ r.ensures.1 refl }

pub add_tacs_source-requires-clause-room : goal.add_tacs_source-requires-clause-room
add_tacs_source-requires-clause-room c =
    let f = c.args.filling.now in
    let front = take c.loop-card.card-index c.args.cards.now in
    rw c.loop-card.invariant.parts (omega (arith, length-map front (tacs_source_of f.nodes.keys c.args.switches.now f.variables.keys), length-take c.loop-card.card-index c.args.cards.now, c.requires.room, c.loop-card-test.true))

pub tacs_source_of-source-requires : goal.tacs_source_of-source-requires
tacs_source_of-source-requires c =
    let counts = c.args.filling.now.draft.fits.counts in
    record {
      nodes = rw (c.loop-card.invariant.nodes, c.requires.filling.nodes) (omega (arith, counts.nodes));
      switches = rw c.requires.switches counts.switches;
      variables = rw (c.loop-card.invariant.variables, c.requires.filling.variables) counts.vars;
    }
