use Rattle.std.proofs.Common.{sym, ◌∙◌, ap, ◌+◌, ◌-◌, List, ℕ, [], ◌∷◌, take, drop, length}
use Rattle.emtp_audit.proofs.Walking.{fields-some, fields-last}
use Rattle.emtp_audit.specs.Rules.{comma_fields}
use Rattle.emtp_audit.proofs.fields.first_field.Goals as goal

pub returns-in-Some : goal.returns-in-Some
returns-in-Some c =
    let xs = c.args.text.now in
    let end = c.in-Some.end in
    fields-some xs end (sym c.in-Some.ensures) ∙ ap (λ (f : List ℕ). f ∷ comma_fields (take (length xs - (end + 1)) (drop (end + 1) xs))) (sym c.trim.ensures.value)

pub returns-in-None : goal.returns-in-None
returns-in-None c = fields-last c.args.text.now (sym c.in-None.ensures) ∙ ap (λ (f : List ℕ). f ∷ []) (sym c.trim-in-None.ensures.value)
