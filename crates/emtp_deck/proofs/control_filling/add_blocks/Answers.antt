use Rattle.std.proofs.Common.{◌≡◌, ◌∙◌, List, [], ◌∷◌, ◌++◌, ap, append_assoc, arith, length, length-append, length-take, map, refl, subst, sym, take, take_all}
use Rattle.std.proofs.lemmas.List.{length-map}
use Rattle.emtp_case.specs.held.Sizes.{sizes_of}
use Rattle.emtp_walk.specs.held.Coefficients.{IsBlockEntry}
use Rattle.emtp_sense.specs.held.ControlSensible.{IsSensibleBlock}
use Rattle.emtp_case.specs.declared.control.Block.{Block}
use Rattle.emtp_case.proofs.Growth.{no_ok}
use Rattle.emtp_deck.specs.ControlFilling.{block_of}
use Rattle.emtp_deck.proofs.ControlAdding.{map_next}
use Rattle.emtp_deck.proofs.ControlRecords.{block_fits}
use Rattle.emtp_deck.proofs.Wanting.{want_left}
use Rattle.emtp_deck.proofs.control_filling.add_blocks.Goals as goal

pub add_block-requires-clause-fits : goal.add_block-requires-clause-fits
add_block-requires-clause-fits c =
    let p = c.loop-entry.draft.parts in
    let variables = c.args.variables.now.keys in
    let ok = c.in_ok-block_of.ensures.ok in
    let few = rw ok at c.in_ok-block_of.ensures.few in
    let size : length variables ≡ length p.vars = rw c.loop-entry.invariant (ap length c.requires.variables) in
    let entry = subst (IsBlockEntry c.args.draft.now.parts.run.dt) (sym c.entry-item.is) (c.requires.entries c.loop-entry.entry-index c.entry-item.result c.loop-entry-test.true) in
    let sensible = subst (IsSensibleBlock variables) (sym c.entry-item.is) (c.requires.sensible c.loop-entry.entry-index c.entry-item.result c.loop-entry-test.true) in
    rw ok (block_fits p.run (sizes_of p) variables c.entry-item.result size (rw c.loop-entry.invariant entry) sensible few)

pub loop-entry-preserved : goal.loop-entry-preserved
loop-entry-preserved c =
    let p = c.args.draft.now.parts in
    let make = block_of c.args.variables.now.keys in
    let front = map make (take c.loop-entry.entry-index c.args.entries.now) in
    let blocks = append_assoc p.blocks front (make c.entry-item.result ∷ []) ∙ ap (λ l. p.blocks ++ l) (sym (map_next make c.args.entries.now c.loop-entry.entry-index c.entry-item.result c.entry-item.is c.loop-entry-test.true)) in
    rw (c.in_ok-add_block.ensures.ok, c.loop-entry.invariant, c.in_ok-block_of.ensures.ok) (ap (λ (l : List Block). record p { blocks = l }) blocks)

pub returns : goal.returns
returns c = record { ok = rw (take_all c.loop-entry.entry-index c.args.entries.now c.loop-entry-test.false) at c.loop-entry.invariant; err = tt }

pub returns-in_err-block_of : goal.returns-in_err-block_of
returns-in_err-block_of c = let r = c.from_residual in record { ok = no_ok _ r.result r.ensures.0; err = want_left r.result _ r.ensures.1 c.in_err-block_of.ensures.err }

pub returns-in_err-add_block : goal.returns-in_err-add_block
returns-in_err-add_block c = let r = c.from_residual-in_err-add_block in record { ok = no_ok _ r.result r.ensures.0; err = want_left r.result _ r.ensures.1 refl }

pub add_block-requires-clause-room : goal.add_block-requires-clause-room
add_block-requires-clause-room c =
    let p = c.args.draft.now.parts in
    let front = take c.loop-entry.entry-index c.args.entries.now in
    let make = block_of c.args.variables.now.keys in
    rw c.loop-entry.invariant (omega (arith, length-append p.blocks (map make front), length-map front make, length-take c.loop-entry.entry-index c.args.entries.now, c.requires.room, c.loop-entry-test.true))
