use Rattle.std.proofs.Common.{◌≡◌, ◌∙◌, ap, length, sym, arith}
use Rattle.std.proofs.lemmas.Grind.{common_steps}
use Rattle.emtp_elim.specs.held.Finished.{Finished}
use Rattle.emtp_elim.proofs.Adding.{adds_row}
use Rattle.emtp_elim.proofs.KeptRows.{count_is}
use Rattle.emtp_elim.proofs.sparse.SparseRows.add_within.Goals as goal

pub store_next-requires-clause-finished : goal.store_next-requires-clause-finished
store_next-requires-clause-finished c =
    let numbers = c.in_ok-extent.ensures.numbers in
    rw (← numbers.length_is, ← c.in_ok-extent.ensures.diagonal) at numbers

pub returns-clause-added : goal.returns-clause-added
returns-clause-added c =
    let same : c.in_ok-extent.extent.diagonal ≡ c.self.inside.count = c.in_ok-extent.ensures.diagonal ∙ sym (count_is _ _ _ _ _ _ _ c.self.view_is) in
    adds_row _ _ _ (grind (arith, common_steps, same))

pub invariant_of-self : goal.invariant_of-self
invariant_of-self c =
    let same : c.in_ok-extent.extent.diagonal ≡ c.self.inside.count = c.in_ok-extent.ensures.diagonal ∙ sym (count_is _ _ _ _ _ _ _ c.self.view_is) in
    grind (arith, common_steps, same)

pub store_next-requires-clause-stored : goal.store_next-requires-clause-stored
store_next-requires-clause-stored c =
    let same : c.in_ok-extent.extent.diagonal ≡ c.self.inside.count = c.in_ok-extent.ensures.diagonal ∙ sym (count_is _ _ _ _ _ _ _ c.self.view_is) in
    let size : length c.finish_row.new.work ≡ c.self.inside.size = c.in_ok-extent.ensures.numbers.length_is ∙ sym (ap (λ (d : Finished). d.size) c.self.view_is) in
    rw (size, same, c.deref_mut.ensures.value, c.deref_mut-2.ensures.value, c.deref_mut-3.ensures.value, c.deref_mut-4.ensures.value) c.self.invariant
