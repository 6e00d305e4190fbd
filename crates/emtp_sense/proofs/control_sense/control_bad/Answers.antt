use mir.Syntax.{w64}
use Rattle.std.proofs.Common.{arith, sym, to_z, of_z, ◌∙◌}
use Rattle.std.proofs.lemmas.Int.{ints}
use Rattle.emtp_fix.proofs.Wide.{through_64}
use Rattle.emtp_walk.proofs.Walking.{whole_of}
use Rattle.emtp_sense.specs.ControlSense.{first_extra, first_source}
use Rattle.emtp_sense.proofs.ControlJudging.{blocks_fine, extras_fine, sources_fine}
use Rattle.emtp_sense.proofs.control_sense.control_bad.Goals as goal

pub tacs_sources_bad-requires : goal.tacs_sources_bad-requires
tacs_sources_bad-requires c =
    let b = blocks_fine c.args.names.now.variables.keys 0 c.args.deck.now.control.blocks (omega arith) (rw c.as_slice.ensures at (sym c.blocks_bad.ensures ∙ c.in_default.is)) in
    record { first = omega (arith, b.few, c.len-first_source.ensures) }

pub judge_extras-requires-clause-first : goal.judge_extras-requires-clause-first
judge_extras-requires-clause-first c =
    let cards = c.args.deck.now.control in
    let b = blocks_fine c.args.names.now.variables.keys 0 cards.blocks (omega arith) (rw c.as_slice.ensures at (sym c.blocks_bad.ensures ∙ c.in_default.is)) in
    let s = sources_fine c.args.names.now.nodes.keys c.args.deck.now.switches c.args.names.now.variables.keys (first_source cards) 0 cards.sources (omega arith) (rw (c.as_slice-sources.ensures, c.as_slice-switches.ensures, c.len-first_source.ensures) at (sym c.tacs_sources_bad.ensures ∙ c.in_default-tacs_sources_bad.is)) in
    rw c.as_slice-sources.ensures (omega (arith, b.few, s.few, c.len-first_source.ensures))

pub pending_control_bad-requires-clause-blocks : goal.pending_control_bad-requires-clause-blocks
pending_control_bad-requires-clause-blocks c =
    let b = blocks_fine c.args.names.now.variables.keys 0 c.args.deck.now.control.blocks (omega arith) (rw c.as_slice.ensures at (sym c.blocks_bad.ensures ∙ c.in_default.is)) in
    omega (arith, b.few)

pub pending_control_bad-requires-clause-extras : goal.pending_control_bad-requires-clause-extras
pending_control_bad-requires-clause-extras c =
    let cards = c.args.deck.now.control in
    let x = extras_fine c.args.names.now.variables.keys (to_z w64 (of_z w64 c.args.deck.now.run.dt)) (first_extra cards) 0 0 cards.extras c.in-Ok.history (omega arith)
    (sym (rw (c.as_slice-3.ensures, c.as_slice-sources.ensures, c.len-first_source.ensures) at c.in-Ok.ensures.value)) in
    omega (arith, x.few)

pub pending_control_bad-requires-clause-few : goal.pending_control_bad-requires-clause-few
pending_control_bad-requires-clause-few c =
    let cards = c.args.deck.now.control in
    let b = blocks_fine c.args.names.now.variables.keys 0 cards.blocks (omega arith) (rw c.as_slice.ensures at (sym c.blocks_bad.ensures ∙ c.in_default.is)) in
    let s = sources_fine c.args.names.now.nodes.keys c.args.deck.now.switches c.args.names.now.variables.keys (first_source cards) 0 cards.sources (omega arith) (rw (c.as_slice-sources.ensures, c.as_slice-switches.ensures, c.len-first_source.ensures) at (sym c.tacs_sources_bad.ensures ∙ c.in_default-tacs_sources_bad.is)) in
    rw c.as_slice-sources.ensures (omega (arith, b.few, s.few, c.len-first_source.ensures))

pub judge_extras-requires-clause-dt : goal.judge_extras-requires-clause-dt
judge_extras-requires-clause-dt c =
    let dt = (whole_of c.args.deck.now c.args.place.now c.requires.sound).run.dt in
    rw (through_64 c.args.deck.now.run.dt (omega (arith, ints, dt.least, dt.most))) dt

pub judge_extras-requires-clause-entries : goal.judge_extras-requires-clause-entries
judge_extras-requires-clause-entries c = rw (c.as_slice-2.ensures, c.as_slice-3.ensures) (whole_of c.args.deck.now c.args.place.now c.requires.sound).control.extras
