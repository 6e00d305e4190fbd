use Rattle.std.proofs.Common.{◌∙◌, drop, length, sym, ap, subst, arith}
use Rattle.std.proofs.lemmas.List.{take_at}
use Rattle.emtp_elim.specs.held.Written.{IsWritten}
use Rattle.emtp_elim.specs.held.WorkRow.{IsClearRow}
use Rattle.emtp_elim.proofs.Writing.{written_nothing}
use Rattle.emtp_elim.proofs.work_row.WorkRow.finish.Goals as goal

pub extent_over-given-requires-clause-place : goal.extent_over-given-requires-clause-place
extent_over-given-requires-clause-place c = omega (arith, c.len-size.ensures, c.rows-count.ensures.count, c.requires.room, c.requires.size, ap length c.self.view_is)

pub extent_over-given-requires-clause-end : goal.extent_over-given-requires-clause-end
extent_over-given-requires-clause-end c = omega (arith, c.len-size.ensures, c.self.invariant.within)

pub finish_and_clear-requires-clause-size : goal.finish_and_clear-requires-clause-size
finish_and_clear-requires-clause-size c = rw (c.deref_mut.ensures.value, c.self.view_is) c.requires.size

pub finish_and_clear-requires-clause-extent : goal.finish_and_clear-requires-clause-extent
finish_and_clear-requires-clause-extent c =
    rw c.deref_mut.ensures.value (c.extent_over-given.ensures.extent c.self.inside.numbers.items (omega (arith, c.len-size.ensures)) c.self.invariant)

pub finish_and_clear-requires-clause-diagonal : goal.finish_and_clear-requires-clause-diagonal
finish_and_clear-requires-clause-diagonal c = c.extent_over-given.ensures.diagonal ∙ c.rows-count.ensures.count

pub invariant_of-self : goal.invariant_of-self
invariant_of-self c =
    let whole = take_at c.finish_and_clear.new.work (drop (length c.finish_and_clear.new.work) c.self.inside.numbers.items) c.self.inside.numbers.len (omega (arith, c.finish_and_clear.auto.work, c.deref_mut.ensures.len)) in
    subst (λ xs. IsWritten xs c.len-size.result 0) (sym whole) (written_nothing _ c.len-size.result c.finish_and_clear.new.work c.finish_and_clear.ensures.clear)

pub returns-clause-clear : goal.returns-clause-clear
returns-clause-clear c =
    let whole = take_at c.finish_and_clear.new.work (drop (length c.finish_and_clear.new.work) c.self.inside.numbers.items) c.self.inside.numbers.len (omega (arith, c.finish_and_clear.auto.work, c.deref_mut.ensures.len)) in
    let clear = rw (c.deref_mut.ensures.value, c.self.view_is) at c.finish_and_clear.ensures.clear in
    subst (λ xs. IsClearRow (length c.args.self.now) xs) (sym whole) clear

pub returns-clause-added : goal.returns-clause-added
returns-clause-added c = rw (c.deref_mut.ensures.value, c.self.view_is) at c.finish_and_clear.ensures.added

pub returns-clause-fault : goal.returns-clause-fault
returns-clause-fault c = rw (c.deref_mut.ensures.value, c.self.view_is) at c.finish_and_clear.ensures.fault
