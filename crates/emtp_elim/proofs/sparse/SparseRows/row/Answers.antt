use Rattle.std.proofs.Common.{◌+◌, ◌*◌, ◌/◌, ◌<◌, ◌≤◌, false, sym, ◌∙◌, arith}
use Rattle.std.proofs.lemmas.List.{get_or_default}
use Rattle.std.proofs.Math.Nat.{mul-le-mul}
use Rattle.emtp_elim.specs.declared.limit.TheConstants.{MOST_ROWS}
use Rattle.emtp_elim.proofs.KeptRows.{count_is, row_of-rows_kept, words_before}
use Rattle.emtp_elim.proofs.sparse.SparseRows.row.Goals as goal

pub returns : goal.returns
returns c =
    let inside : c.args.i < c.self.inside.count = omega (arith, count_is _ _ _ _ _ _ _ c.self.view_is) in
    let first = c.index.ensures ∙ get_or_default c.self.inside.starts.items c.args.i c.index.result.now 0 (omega (arith, c.self.invariant.room_starts, c.self.invariant.within)) in
    let pivot = c.index-2.ensures ∙ get_or_default c.self.inside.pivots.items c.args.i c.index-2.result.now 0 (omega (arith, c.self.invariant.room_pivots, c.self.invariant.within)) in
    let last = c.index-3.ensures ∙ get_or_default c.self.inside.starts.items (c.args.i + 1) c.index-3.result.now 0 (omega (arith, c.self.invariant.room_starts, c.self.invariant.within)) in
    let flag = c.index-4.ensures ∙ get_or_default c.self.inside.words.has_words.items c.args.i c.index-4.result.now false (omega (arith, c.self.invariant.room_words.has_words, c.self.invariant.within)) in
    let room : c.args.i * c.args.i / 2 + c.args.i ≤ c.self.inside.size * c.self.inside.size / 2 = words_before c.args.i c.self.inside.size (omega (arith, inside, c.self.invariant.within)) in
    rw (← c.self.view_is, c.deref.ensures.value, c.deref-2.ensures.value, c.deref-3.ensures.value, first, pivot, last, flag)
    (record {
      row = c.self.invariant.each c.args.i inside;
      numbers = sym (row_of-rows_kept _ _ _ _ _ c.args.i inside);
      few = c.self.invariant.few;
      words = record { room = omega (arith, room, c.self.invariant.room_words.ratio_words); words = c.self.invariant.words_are c.args.i inside };
    })

pub index-requires : goal.index-requires
index-requires c = omega (arith, c.requires, count_is _ _ _ _ _ _ _ c.self.view_is, c.self.invariant.room_starts, c.self.invariant.within, c.self.inside.starts.ok.0)

pub index-requires-2 : goal.index-requires-2
index-requires-2 c = omega (arith, c.requires, count_is _ _ _ _ _ _ _ c.self.view_is, c.self.invariant.room_pivots, c.self.invariant.within, c.self.inside.pivots.ok.0)

pub overflow_add-i : goal.overflow_add-i
overflow_add-i c = omega (arith, c.requires, count_is _ _ _ _ _ _ _ c.self.view_is, c.self.invariant.within, c.self.invariant.few)

pub index-requires-3 : goal.index-requires-3
index-requires-3 c = omega (arith, c.requires, count_is _ _ _ _ _ _ _ c.self.view_is, c.self.invariant.room_starts, c.self.invariant.within, c.self.inside.starts.ok.0)

pub index-requires-4 : goal.index-requires-4
index-requires-4 c = omega (arith, c.requires, count_is _ _ _ _ _ _ _ c.self.view_is, c.self.invariant.room_words.has_words, c.self.invariant.within, c.self.inside.words.has_words.ok.0)

pub index-requires-5 : goal.index-requires-5
index-requires-5 c = omega (arith, c.requires, count_is _ _ _ _ _ _ _ c.self.view_is, c.self.invariant.room_words.dividers, c.self.invariant.within, c.self.inside.words.dividers.ok.0)

pub overflow_mul-result : goal.overflow_mul-result
overflow_mul-result c =
    let few : c.args.i ≤ MOST_ROWS = omega (arith, c.requires, count_is _ _ _ _ _ _ _ c.self.view_is, c.self.invariant.within, c.self.invariant.few) in
    omega (arith, mul-le-mul few few)
