use Rattle.std.proofs.Common.{◌≡◌, ◌∙◌, sym, ap, ℕ, ◌+◌, ◌-◌, List, take, drop}
use Rattle.emtp_card.specs.Field.{trimmed, columns, field_of}
use Rattle.emtp_card.proofs.Blanks.{trimmed-held, trimmed-blank}
use Rattle.emtp_card.proofs.field.field_text.Goals as goal

field_is : (line held text : List ℕ) (first last : ℕ) → text ≡ trimmed held → held ≡ take (last + 1 - first) (drop (first - 1) line) → text ≡ field_of line first last
field_is line held text first last is here = is ∙ ap trimmed here ∙ trimmed-held line first last

pub returns-clause-value : goal.returns-clause-value
returns-clause-value c = field_is c.args.line.now c.columns.result.now c.trim.result.now c.args.first c.args.last c.trim.ensures.value c.columns.ensures

pub returns-clause-blank : goal.returns-clause-blank
returns-clause-blank c =
    let is = field_is c.args.line.now c.columns.result.now c.trim.result.now c.args.first c.args.last c.trim.ensures.value c.columns.ensures in
    let both = trimmed-blank (columns c.args.line.now c.args.first c.args.last) in
    (λ none. both.0 (sym is ∙ none), λ blank. is ∙ both.1 blank)
