use Rattle.std.proofs.Common.{ap, codes, ◌∷◌, List, ℕ}
use Rattle.emtp_case.specs.declared.control.Input.{Input}
use Rattle.emtp_listing.specs.ControlLines.{input_entries}
use Rattle.emtp_listing.specs.Entry.{count_entry}
use Rattle.emtp_listing.specs.Lines.{all_separated}
use Rattle.emtp_listing.proofs.Chains.{retext, then}
use Rattle.emtp_listing.proofs.control.put_block_card.Goals as goal

pub returns : goal.returns
returns c = then c.in_ok-put_head.ensures (then c.in_ok-put_word.ensures (then c.in_ok-put_variable.ensures (then (retext (ap (λ (n : ℕ). 44 ∷ 32 ∷ count_entry (codes "order") n) c.from.ensures) c.in_ok-put_count.ensures) (then c.in_ok-put_figure.ensures (then c.in_ok-put_bound.ensures (then c.in_ok-put_bound-2.ensures (retext (ap (λ (is : List Input). all_separated (input_entries c.args.parts.now.vars is)) c.as_slice.ensures) c.in_ok-put_inputs.ensures)))))))
