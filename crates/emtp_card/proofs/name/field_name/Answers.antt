use Rattle.std.proofs.Common.{◌≡◌, ◌≢◌, ◌∙◌, sym, ap, ℕ, ◌+◌, ◌==◌, true, false, List, [], ◌∷◌, length, refl, arith}
use Rattle.emtp_card.specs.Field.{columns}
use Rattle.emtp_card.specs.Name.{is_comma}
use Rattle.emtp_card.proofs.Blanks.{list_any-blank}
use Rattle.emtp_card.proofs.Names.{field_is_name}
use Rattle.emtp_card.proofs.name.field_name.Goals as goal

pub returns-then-has_comma-clause-blank : goal.returns-then-has_comma-clause-blank
returns-then-has_comma-clause-blank c = (
  λ e. absurd (cc),
  λ blank.
      let none : false ≡ true = sym (list_any-blank is_comma refl (columns c.args.line.now c.args.first (c.args.first + 5)) blank) ∙ sym c.has_comma.ensures ∙ c.if-has_comma.true in absurd (cc),
)

some_text : (text : List ℕ) → false ≡ (length text == 0) → text ≢ []
some_text [] h e = cc
some_text (byte ∷ bytes) h e = cc

pub returns-else-is_empty-clause-name : goal.returns-else-is_empty-clause-name
returns-else-is_empty-clause-name c = λ whole.
    let f = c.field_text-text in
    field_is_name c.args.line.now c.args.first c.new.result (c.new.ensures ∙ f.ensures.value)
    (λ e. some_text f.result.now c.if-is_empty.ensures (sym c.new.ensures ∙ e))
    (omega (arith, ap length c.new.ensures, f.ensures.short))
    (sym c.has_comma.ensures ∙ c.if-has_comma.false) whole
