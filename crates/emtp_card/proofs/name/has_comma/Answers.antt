use Rattle.std.proofs.Common.{◌∙◌, sym, ap, ◌+◌, refl}
use Rattle.std.specs.List.{list_any}
use Rattle.emtp_card.specs.Name.{is_comma}
use Rattle.emtp_card.proofs.Blanks.{list_any-columns}
use Rattle.emtp_card.proofs.name.has_comma.Goals as goal

pub returns : goal.returns
returns c = c.any_comma.ensures ∙ ap (list_any is_comma) c.columns.ensures ∙ sym (list_any-columns is_comma refl c.args.line.now c.args.first (c.args.first + 5))
