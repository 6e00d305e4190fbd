use Rattle.std.proofs.Common.{ap, arith, codes, of_z, sym, to_z, ◌≡◌, ◌∙◌, ◌∷◌, ℤ}
use mir.Syntax.{w64}
use Rattle.std.proofs.lemmas.Int.{ints}
use Rattle.emtp_case.specs.declared.source.Shape.{Shape}
use Rattle.emtp_listing.specs.Entry.{number_entry}
use Rattle.emtp_listing.specs.Lines.{all_separated}
use Rattle.emtp_listing.specs.NetworkLines.{shape_entries}
use Rattle.emtp_listing.proofs.Chains.{last, retext, then}
use Rattle.emtp_listing.proofs.source.put_shape.Goals as goal

pub returns-in_ok-put_quantity-in-Ramp : goal.returns-in_ok-put_quantity-in-Ramp
returns-in_ok-put_quantity-in-Ramp c = retext (sym (ap (λ (s : Shape). all_separated (shape_entries c.args.parts.now.nodes c.args.parts.now.vars s)) c.in-Ramp.is)) (then c.in_ok-put_word-in-Ramp.ensures (last c.in_ok-put_quantity-in-Ramp.ensures))

pub returns-in_ok-put_quantity-in-Cosine-3 : goal.returns-in_ok-put_quantity-in-Cosine-3
returns-in_ok-put_quantity-in-Cosine-3 c =
    let angle : to_z w64 (of_z w64 c.degrees.result) ≡ c.degrees.result = omega (arith, ints, c.degrees.type_inv) in
    retext (sym (ap (λ (s : Shape). all_separated (shape_entries c.args.parts.now.nodes c.args.parts.now.vars s)) c.in-Cosine.is)) (then c.in_ok-put_word-in-Cosine.ensures (then c.in_ok-put_quantity-in-Cosine.ensures (then c.in_ok-put_quantity-in-Cosine-2.ensures (last (retext (ap (λ (z : ℤ). 44 ∷ 32 ∷ number_entry (codes "angle") 9 (codes "degree") z) (angle ∙ c.degrees.ensures)) c.in_ok-put_quantity-in-Cosine-3.ensures)))))

pub returns-in_ok-put_variable-in-Tacs : goal.returns-in_ok-put_variable-in-Tacs
returns-in_ok-put_variable-in-Tacs c = retext (sym (ap (λ (s : Shape). all_separated (shape_entries c.args.parts.now.nodes c.args.parts.now.vars s)) c.in-Tacs.is)) (then c.in_ok-put_word-in-Tacs.ensures (last c.in_ok-put_variable-in-Tacs.ensures))

pub returns-in_ok-put_quantity-in-Pulse-2 : goal.returns-in_ok-put_quantity-in-Pulse-2
returns-in_ok-put_quantity-in-Pulse-2 c = retext (sym (ap (λ (s : Shape). all_separated (shape_entries c.args.parts.now.nodes c.args.parts.now.vars s)) c.in-Pulse.is)) (then c.in_ok-put_word-in-Pulse.ensures (then c.in_ok-put_quantity-in-Pulse.ensures (last c.in_ok-put_quantity-in-Pulse-2.ensures)))

pub returns-in_ok-put_quantity-in-Saw : goal.returns-in_ok-put_quantity-in-Saw
returns-in_ok-put_quantity-in-Saw c = retext (sym (ap (λ (s : Shape). all_separated (shape_entries c.args.parts.now.nodes c.args.parts.now.vars s)) c.in-Saw.is)) (then c.in_ok-put_word-in-Saw.ensures (last c.in_ok-put_quantity-in-Saw.ensures))

pub returns-in_ok-put_node-in-NodeVoltage : goal.returns-in_ok-put_node-in-NodeVoltage
returns-in_ok-put_node-in-NodeVoltage c = retext (sym (ap (λ (s : Shape). all_separated (shape_entries c.args.parts.now.nodes c.args.parts.now.vars s)) c.in-NodeVoltage.is)) (then c.in_ok-put_word-in-NodeVoltage.ensures (last c.in_ok-put_node-in-NodeVoltage.ensures))

pub returns-in_ok-put_place-in-SwitchCurrent : goal.returns-in_ok-put_place-in-SwitchCurrent
returns-in_ok-put_place-in-SwitchCurrent c = retext (sym (ap (λ (s : Shape). all_separated (shape_entries c.args.parts.now.nodes c.args.parts.now.vars s)) c.in-SwitchCurrent.is)) (then c.in_ok-put_word-in-SwitchCurrent.ensures (last c.in_ok-put_place-in-SwitchCurrent.ensures))

pub returns-in_ok-put_place-in-SwitchStatus : goal.returns-in_ok-put_place-in-SwitchStatus
returns-in_ok-put_place-in-SwitchStatus c = retext (sym (ap (λ (s : Shape). all_separated (shape_entries c.args.parts.now.nodes c.args.parts.now.vars s)) c.in-SwitchStatus.is)) (then c.in_ok-put_word-in-SwitchStatus.ensures (last c.in_ok-put_place-in-SwitchStatus.ensures))
