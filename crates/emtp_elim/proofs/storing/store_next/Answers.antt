use Rattle.std.proofs.Common.{◌≡◌, ◌+◌, ◌<◌, ◌≤◌, ℕ, ℤ, List, length, slice_index, length-set, to_z, of_z, refl, arith}
use mir.Syntax.{w64, w128}
use Rattle.std.proofs.lemmas.Nat.{row_fits}
use Rattle.emtp_fix.proofs.Wide.{through, through_64}
use Rattle.emtp_elim.specs.Matrix.{item}
use Rattle.emtp_elim.specs.held.Stored.{AreStored}
use Rattle.emtp_elim.specs.declared.row_words.RowWords.{RowWords}
use Rattle.emtp_elim.proofs.Extents.{later_packed, ratios_packed}
use Rattle.emtp_elim.proofs.KeptRows.{stored_more}
use Rattle.emtp_elim.proofs.storing.store_next.Goals as goal

-- one more row has room
room : {size count : ℕ} {starts pivots columns : List ℕ} {values : List ℤ} {words : RowWords} → AreStored size count starts pivots columns values words → count < size
    → slice_index starts count + size ≤ length columns
room {size = size} {count = count} was less = omega (arith, was.used count (omega arith), was.room_columns, row_fits count size size size less (omega arith))

pub pack-pivot-requires-clause-room : goal.pack-pivot-requires-clause-room
pack-pivot-requires-clause-room c = omega (arith, room c.requires.stored c.requires.room)

pub offset_bounds-columns-pivot : goal.offset_bounds-columns-pivot
offset_bounds-columns-pivot c = omega (arith, room c.requires.stored c.requires.room, c.pack-pivot.ensures.entries.few, c.requires.extent.within)

pub bounds-columns-pivot : goal.bounds-columns-pivot
bounds-columns-pivot c = omega (arith, room c.requires.stored c.requires.room, c.pack-pivot.ensures.entries.few, c.requires.extent.within)

pub offset_bounds-values-pivot : goal.offset_bounds-values-pivot
offset_bounds-values-pivot c = omega (arith, room c.requires.stored c.requires.room, c.pack-pivot.ensures.entries.few, c.requires.extent.within)

pub bounds-values-pivot : goal.bounds-values-pivot
bounds-values-pivot c = omega (arith, room c.requires.stored c.requires.room, c.pack-pivot.ensures.entries.few, c.requires.extent.within)

pub overflow_add-pivot : goal.overflow_add-pivot
overflow_add-pivot c = omega (arith, room c.requires.stored c.requires.room, c.pack-pivot.ensures.entries.few, c.requires.extent.within)

pub pack-end-requires-clause-room : goal.pack-end-requires-clause-room
pack-end-requires-clause-room c = omega (arith, length-set {A = ℕ}, room c.requires.stored c.requires.room, c.pack-pivot.ensures.entries.few, c.requires.extent.within)

pub pack-end-requires-clause-same_room : goal.pack-end-requires-clause-same_room
pack-end-requires-clause-same_room c = omega (arith, length-set {A = ℕ}, length-set {A = ℤ})

pub returns : goal.returns
returns c =
    let number = item c.args.work.now c.args.extent.diagonal in
    let small = c.requires.finished.entries c.args.extent.diagonal (omega arith) in
    let wide : to_z w128 (of_z w128 number) ≡ number = through number (omega (arith, small)) in
    let narrow : to_z w64 (of_z w64 number) ≡ number = through_64 number (omega (arith, small)) in
    let both = stored_more _ _ c.args.starts.now c.args.pivots.now _ _ _ _ _ _ c.args.words.now c.keep.new.self _ _ c.args.work.now c.requires.stored (rw c.requires.stored.room_words.has_words at c.keep.ensures.keeps) (record {
      finished = c.requires.finished;
      inside = c.requires.room;
      long_columns = omega (arith, length-set {A = ℕ});
      long_values = omega (arith, length-set {A = ℤ});
      mid_columns_long = omega arith;
      mid_values_long = omega arith;
      ratios = ratios_packed c.requires.extent c.pack-pivot.ensures;
      later = later_packed c.requires.extent refl (rw (wide, narrow) at c.pack-end.ensures);
    }) in
    record { stored = both.0; rows = both.1; has_words = c.keep.ensures.has_words; ratio_words = c.keep.ensures.ratio_words; dividers = c.keep.ensures.dividers }
