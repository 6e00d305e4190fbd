use Rattle.std.proofs.Common.{ap, codes, ◌∷◌, ◌∙◌, List, ℕ}
use Rattle.emtp_case.specs.declared.control.Input.{Input}
use Rattle.emtp_listing.specs.ControlLines.{a_places, input_entries}
use Rattle.emtp_listing.specs.Entry.{count_entry, figure_entry}
use Rattle.emtp_listing.specs.Lines.{all_separated}
use Rattle.emtp_listing.proofs.Chains.{retext, then}
use Rattle.emtp_listing.proofs.extra.put_device.Goals as goal

pub returns : goal.returns
returns c = then c.in_ok-put_head.ensures (then c.in_ok-put_word.ensures (then c.in_ok-put_variable.ensures (then (retext (ap (λ (k : ℕ). 44 ∷ 32 ∷ count_entry (codes "card") k) c.group_number.ensures) c.in_ok-put_count.ensures) (then (retext (ap (λ (k : ℕ). 44 ∷ 32 ∷ count_entry (codes "code") k) c.code_number.ensures) c.in_ok-put_count-2.ensures) (then (retext (ap (λ (k : ℕ). 44 ∷ 32 ∷ figure_entry (codes "A") k c.a_tail.result.now c.args.device.now.a) c.a_places.ensures.value ∙ ap (λ (t : List ℕ). 44 ∷ 32 ∷ figure_entry (codes "A") (a_places c.args.device.now.code) t c.args.device.now.a) c.a_tail.ensures) c.in_ok-put_figure.ensures) (then c.in_ok-put_figure-2.ensures (then c.in_ok-put_figure-3.ensures (then c.in_ok-put_choice.ensures (then c.in_ok-put_choice-2.ensures (then c.in_ok-put_place.ensures (then c.in_ok-put_count-3.ensures (retext (ap (λ (is : List Input). all_separated (input_entries c.args.parts.now.vars is)) c.as_slice.ensures) c.in_ok-put_inputs.ensures))))))))))))
