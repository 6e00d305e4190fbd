use Rattle.std.proofs.Common.{◌∙◌, ap}
use Rattle.emtp_deck.specs.Copies.{line_numbers}
use Rattle.emtp_deck.proofs.copies.taken_by.Goals as goal

pub returns : goal.returns
returns c =
    let p = c.args.draft.now.parts in
    let values = rw c.requires at c.values_from-values.ensures.value in
    record {
      values_are = values;
      numbers_are = c.line_numbers-numbers.ensures ∙ ap (line_numbers p.trios c.args.card.now.values) values;
      kind = c.values_from-values.ensures.taken;
    }
