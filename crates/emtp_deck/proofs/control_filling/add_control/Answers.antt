use Rattle.std.proofs.Common.{ap, arith, fold, refl, subst, ◌++◌, ◌∙◌, ◌≡◌}
use Rattle.std.specs.Prelude.{All, map}
use Rattle.emtp_case.specs.Case.{standing_names}
use Rattle.emtp_case.specs.HistoryValues.{history_values_of}
use Rattle.emtp_case.specs.held.Name.{IsName}
use Rattle.emtp_case.specs.declared.case.Parts.{Parts}
use Rattle.emtp_deck.specs.ControlFilling.{block_of, with_extra}
use Rattle.emtp_deck.specs.Deck.{control_made}
use Rattle.emtp_deck.specs.held.Filling.{made_of}
use Rattle.emtp_deck.specs.Made.{Made}
use Rattle.emtp_deck.specs.held.Made.{named_made}
use Rattle.emtp_walk.specs.declared.deck.Deck.{Deck}
use Rattle.emtp_deck.specs.declared.filling.Filling.{Filling}
use Rattle.emtp_deck.proofs.ControlAdding.{control_filled, summed}
use Rattle.emtp_deck.proofs.Wanting.{want_left}
use Rattle.emtp_case.proofs.Growth.{no_ok}
use Rattle.emtp_deck.proofs.control_filling.add_control.Goals as goal

-- the variables, then the blocks, then the supplemental cards
added : (f : Filling) (v b p : Parts) (deck : Deck) → made_of f ≡ named_made f.nodes.keys deck.run → v ≡ record f.draft.parts { vars = f.variables.keys } → b ≡ record v { blocks = v.blocks ++ map (block_of f.variables.keys) deck.control.blocks }
    → p ≡ fold (with_extra f.variables.keys deck.points) b deck.control.extras → ◌≡◌ {A = Made} (record { parts = p; asked = f.asked }) (control_made f.nodes.keys f.variables.keys deck)
added f v b p deck empty to_v to_b to_p = rw (to_p, to_b, to_v, ap (λ (m : Made). m.parts) empty, ap (λ (m : Made). m.asked) empty) refl

pub add_variables-requires : goal.add_variables-requires
add_variables-requires c =
    let standing : c.args.filling.now.draft.parts.vars ≡ standing_names = ap (λ (m : Made). m.parts.vars) c.requires.empty in
    record {
      grows = rw standing c.requires.sensible.standing;
      few = c.requires.sensible.few;
      names = c.requires.sensible.names (subst (All IsName) standing c.args.filling.now.draft.fits.control.names);
    }

pub add_blocks-requires : goal.add_blocks-requires
add_blocks-requires c =
    rw (c.in_ok-add_variables.ensures.ok, ap (λ (m : Made). m.parts) c.requires.empty, c.as_slice.ensures)
    (record { variables = refl; room = omega (arith, c.requires.sensible.few_blocks); entries = c.requires.whole.control.blocks; sensible = c.requires.sensible.blocks })

pub add_extras-requires : goal.add_extras-requires
add_extras-requires c =
    rw (c.in_ok-add_blocks.ensures.ok, c.in_ok-add_variables.ensures.ok, ap (λ (m : Made). m.parts) c.requires.empty, c.as_slice-points.ensures, c.as_slice-extras.ensures)
    (record {
      variables = refl;
      room = omega (arith, c.requires.sensible.few_extras);
      entries = c.requires.whole.control.extras;
      sensible = c.requires.sensible.extras;
      history = omega (arith, c.requires.sensible.history);
    })

pub returns-clause-ok : goal.returns-clause-ok
returns-clause-ok c =
    let to_b = rw c.as_slice.ensures at c.in_ok-add_blocks.ensures.ok in
    let to_p = rw (c.as_slice-points.ensures, c.as_slice-extras.ensures) at c.in_ok-filling.ensures.ok in
    added c.args.filling.now c.add_variables.new.draft.parts c.add_blocks.new.draft.parts _ c.args.deck.now c.requires.empty c.in_ok-add_variables.ensures.ok to_b to_p

pub returns-clause-filling : goal.returns-clause-filling
returns-clause-filling c =
    let to_b = rw c.as_slice.ensures at c.in_ok-add_blocks.ensures.ok in
    let to_p = rw (c.as_slice-points.ensures, c.as_slice-extras.ensures) at c.in_ok-filling.ensures.ok in
    let made = added c.args.filling.now c.add_variables.new.draft.parts c.add_blocks.new.draft.parts _ c.args.deck.now c.requires.empty c.in_ok-add_variables.ensures.ok to_b to_p in
    let start : history_values_of c.args.filling.now.draft.parts ≡ 0 = ap (λ (m : Made). history_values_of m.parts) c.requires.empty in
    let zero : history_values_of c.add_blocks.new.draft.parts ≡ 0 = ap history_values_of c.in_ok-add_blocks.ensures.ok ∙ c.in_ok-add_variables.ensures.history ∙ start in
    let total = summed _ (history_values_of c.add_blocks.new.draft.parts) c.in_ok-filling.field-0 c.in_ok-filling.ensures.history zero in
    control_filled _ c.args.filling.now.nodes.keys c.args.filling.now.variables.keys c.args.deck.now made refl refl total

pub returns-in_err-add_variables : goal.returns-in_err-add_variables
returns-in_err-add_variables c = let r = c.from_residual in record { ok = no_ok _ r.result r.ensures.0; nodes = no_ok _ r.result r.ensures.0; variables = no_ok _ r.result r.ensures.0; err = want_left r.result _ r.ensures.1 c.in_err-add_variables.ensures.err; filling = no_ok _ r.result r.ensures.0 }

pub returns-in_err-add_blocks : goal.returns-in_err-add_blocks
returns-in_err-add_blocks c = let r = c.from_residual-in_err-add_blocks in record { ok = no_ok _ r.result r.ensures.0; nodes = no_ok _ r.result r.ensures.0; variables = no_ok _ r.result r.ensures.0; err = want_left r.result _ r.ensures.1 c.in_err-add_blocks.ensures.err; filling = no_ok _ r.result r.ensures.0 }

pub returns-in_err-filling : goal.returns-in_err-filling
returns-in_err-filling c = let r = c.from_residual-in_err-filling in record { ok = no_ok _ r.result r.ensures.0; nodes = no_ok _ r.result r.ensures.0; variables = no_ok _ r.result r.ensures.0; err = want_left r.result _ r.ensures.1 c.in_err-filling.ensures.err; filling = no_ok _ r.result r.ensures.0 }
