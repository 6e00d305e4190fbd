use Rattle.std.proofs.Common.{ap, ◌∷◌, List, ℕ, codes}
use Rattle.emtp_listing.specs.Entry.{number_entry}
use Rattle.emtp_listing.proofs.Chains.{retext, reword, then}
use Rattle.emtp_listing.proofs.source.put_source.Goals as goal

pub returns : goal.returns
returns c = then c.in_ok-put_head.ensures (then (reword c.source_word.ensures c.in_ok-put_word.ensures) (then c.in_ok-put_node.ensures (then (retext (ap (λ (u : List ℕ). 44 ∷ 32 ∷ number_entry (codes "amplitude") 9 u c.args.source.now.amplitude) c.source_unit.ensures) c.in_ok-put_quantity.ensures) (then c.in_ok-put_quantity-2.ensures (then c.in_ok-put_time.ensures c.in_ok-put_shape.ensures)))))
