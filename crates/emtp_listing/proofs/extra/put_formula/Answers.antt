use Rattle.std.proofs.Common.{ap, codes, map, ◌∷◌, ◌∙◌, [], List, ℕ}
use Rattle.emtp_listing.specs.ControlLines.{group_number}
use Rattle.emtp_listing.specs.Entry.{count_entry, variable_entry, word_entry}
use Rattle.emtp_listing.specs.ExpressionText.{expression_text}
use Rattle.emtp_listing.specs.Lines.{all_separated}
use Rattle.emtp_listing.proofs.Chains.{entries_then, last, retext, then}
use Rattle.emtp_listing.proofs.extra.put_formula.Goals as goal

pub returns : goal.returns
returns c = then c.in_ok-put_head.ensures (then c.in_ok-put_word.ensures (then c.in_ok-put_variable.ensures (then (retext (ap (λ (k : ℕ). 44 ∷ 32 ∷ count_entry (codes "card") k) c.group_number.ensures) c.in_ok-put_count.ensures) (then (retext (ap (λ (k : ℕ). 44 ∷ 32 ∷ count_entry (codes "variables") k) c.len.ensures) c.in_ok-put_count-2.ensures) (entries_then (map (variable_entry (codes "names") c.args.parts.now.vars) c.args.formula.now.vars) (word_entry (codes "value") (expression_text c.args.parts.now.vars c.args.formula.now.vars c.args.formula.now.expr) ∷ [])
    (retext (ap (λ (vs : List ℕ). all_separated (map (variable_entry (codes "names") c.args.parts.now.vars) vs)) c.as_slice.ensures) c.in_ok-put_variables.ensures)
    (last (retext (ap (λ (t : List ℕ). 44 ∷ 32 ∷ word_entry (codes "value") t) (c.as_slice-2.ensures.value ∙ c.in_ok-text.ensures)) c.in_ok-put_named.ensures)))))))
