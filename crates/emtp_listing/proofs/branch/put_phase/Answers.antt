use Rattle.std.proofs.Common.{ap, codes, ◌∷◌, ℕ}
use Rattle.emtp_listing.specs.Entry.{place_entry}
use Rattle.emtp_listing.proofs.Chains.{last, retext, then}
use Rattle.emtp_listing.proofs.branch.put_phase.Goals as goal

pub returns : goal.returns
returns c = then c.in_ok-put_head.ensures (then c.in_ok-put_word.ensures (then c.in_ok-put_node.ensures (then c.in_ok-put_node-2.ensures (then c.in_ok-put_place.ensures (last (retext (ap (λ (n : ℕ). 44 ∷ 32 ∷ place_entry (codes "phase") n) c.from.ensures) c.in_ok-put_place-2.ensures))))))
