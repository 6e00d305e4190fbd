use Rattle.std.proofs.Common.{◌≡◌, ◌∙◌, ◌+ℤ◌, drop, length, slice_set, sym, ap, subst, to_z, of_z, arith}
use mir.Syntax.{w128}
use Rattle.std.proofs.lemmas.Int.{to_z-of_z}
use Rattle.std.proofs.lemmas.List.{take_at}
use Rattle.emtp_elim.specs.Matrix.{item}
use Rattle.emtp_elim.specs.held.Written.{IsWritten}
use Rattle.emtp_elim.proofs.Writing.{written_more}
use Rattle.emtp_elim.proofs.work_row.WorkRow.add_to.Goals as goal

pub end_behind-end-requires-clause-place : goal.end_behind-end-requires-clause-place
end_behind-end-requires-clause-place c = omega (arith, c.len-size.ensures, c.requires.place, ap length c.self.view_is)

pub end_behind-end-requires-clause-end : goal.end_behind-end-requires-clause-end
end_behind-end-requires-clause-end c = omega (arith, c.len-size.ensures, c.self.invariant.within)

pub add_amount-requires-clause-place : goal.add_amount-requires-clause-place
add_amount-requires-clause-place c = rw (c.deref_mut.ensures.value, c.self.view_is) c.requires.place

pub add_amount-requires-clause-number : goal.add_amount-requires-clause-number
add_amount-requires-clause-number c = rw (c.deref_mut.ensures.value, c.self.view_is) c.requires.number

pub returns : goal.returns
returns c =
    let whole = take_at c.add_amount.new.row (drop (length c.add_amount.new.row) c.self.inside.numbers.items) c.self.inside.numbers.len (omega (arith, c.add_amount.auto.row, c.deref_mut.ensures.len)) in
    let wide : to_z w128 (of_z w128 c.args.amount) ≡ c.args.amount = to_z-of_z w128 c.args.amount c.ranges.amount in
    let added : c.add_amount.new.row ≡ slice_set c.args.self.now c.args.column (item c.args.self.now c.args.column +ℤ c.args.amount) = rw (c.deref_mut.ensures.value, c.self.view_is, wide) at c.add_amount.ensures in
    whole ∙ added

pub invariant_of-self : goal.invariant_of-self
invariant_of-self c =
    let row = c.self.inside.numbers.items in
    let whole = take_at c.add_amount.new.row (drop (length c.add_amount.new.row) c.self.inside.numbers.items) c.self.inside.numbers.len (omega (arith, c.add_amount.auto.row, c.deref_mut.ensures.len)) in
    let added = rw c.deref_mut.ensures.value at c.add_amount.ensures in
    let written = written_more row c.self.inside.first c.self.inside.end c.args.column c.first_with-first.result c.end_behind-end.result _ c.self.invariant c.first_with-first.ensures.low c.first_with-first.ensures.there
    c.end_behind-end.ensures.low c.end_behind-end.ensures.there (omega (arith, c.end_behind-end.ensures.within, c.len-size.ensures)) in
    subst (λ xs. IsWritten xs c.first_with-first.result c.end_behind-end.result) (sym (whole ∙ added)) written
