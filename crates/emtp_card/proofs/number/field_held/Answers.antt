use Rattle.std.proofs.Common.{◌∙◌, ap, FitsSigned}
use mir.Syntax.{w32, w64}
use Rattle.std.proofs.lemmas.Int.{to_z-of_z}
use Rattle.emtp_card.specs.Number.{held_field, held_in, number_in, unless_blank}
use Rattle.emtp_card.proofs.number.field_held.Goals as goal

pub value-requires-clause-scale_low : goal.value-requires-clause-scale_low
value-requires-clause-scale_low c = rw (to_z-of_z w32 c.args.scale c.ranges.scale) c.requires.scale_low

pub value-requires-clause-scale_high : goal.value-requires-clause-scale_high
value-requires-clause-scale_high c = rw (to_z-of_z w32 c.args.scale c.ranges.scale) c.requires.scale_high

pub returns-clause-value : goal.returns-clause-value
unfolding held_field
returns-clause-value c =
    let scale : FitsSigned w32 c.args.scale = c.ranges.scale in
    let low : FitsSigned w64 c.args.low = c.ranges.low in
    let high : FitsSigned w64 c.args.high = c.ranges.high in
    let read = simp to_z-of_z at (c.held.ensures.value _ c.value.ensures) in
    c.unless_blank.ensures.value ∙ ap (unless_blank c.field_text-text.result.now) read
    ∙ ap (λ text. unless_blank text (held_in c.args.low c.args.high (number_in c.args.scale text))) c.field_text-text.ensures.value

pub returns-clause-range : goal.returns-clause-range
returns-clause-range c =
    let low : FitsSigned w64 c.args.low = c.ranges.low in
    let high : FitsSigned w64 c.args.high = c.ranges.high in
    c.unless_blank.ensures.range c.args.low c.args.high (simp to_z-of_z at c.held.ensures.range)
