-- Finished rows as they are kept, by their entries.
use Rattle.emtp_fix.specs.declared.limit.TheConstants.{LARGEST_ENTRY}
use Rattle.std.proofs.Common.{◌≡◌, ◌≢◌, ℕ, pos, ◌+◌, ◌*◌, ◌<◌, ◌≤◌, ℤ, unsigned_abs, List, [], ◌∷◌, ◌++◌, length, take, slice_index, slice_index_or, slice_set, false, ◌/◌, ◌-◌, length-set, refl, ap, sym, ◌∙◌, inl, inr, arith}
use Rattle.std.proofs.lemmas.List.{get_or-set_same, get_or-set_other}
use Rattle.std.proofs.lemmas.List.FromFn.{length-map-range_with_len, get_or-map-range_with_len, map-range_with_len_more, take-map-range_with_len, fill_by_all}
use Rattle.std.proofs.lemmas.Nat.{row_fits}
use Rattle.std.proofs.Math.Nat.{mul-le-mul}
use Rattle.std.proofs.lemmas.Bool.{cases_eq}
use Rattle.emtp_elim.specs.Matrix.{item, row_of}
use Rattle.emtp_elim.specs.held.Clearing.{IsFinishedRow}
use Rattle.emtp_elim.specs.held.Finished.{Finished}
use Rattle.emtp_elim.specs.held.RowWords.{AreWordsOf, KeepsWords}
use Rattle.emtp_elim.specs.held.Stored.{dense_row, rows_kept, Packs, IsStoredRow, AreStored}
use Rattle.emtp_elim.specs.declared.row_words.RowWords.{RowWords}
use Rattle.emtp_elim.proofs.Entries.{entries_more, entries_same, entries_joined, length-dense_row, dense_row_is, dense_row_same}

pub length-rows_kept : (size count : ℕ) (starts columns : List ℕ) (values : List ℤ) → length (rows_kept size count starts columns values) ≡ count
length-rows_kept size count starts columns values = length-map-range_with_len _ 0 count

pub row_of-rows_kept : (size count : ℕ) (starts columns : List ℕ) (values : List ℤ) (i : ℕ) → i < count
    → row_of (rows_kept size count starts columns values) i ≡ dense_row size columns values (slice_index starts i) (slice_index starts (i + 1))
row_of-rows_kept size count starts columns values i h = get_or-map-range_with_len _ 0 count i i [] h (omega arith)

pub width-rows_kept : (size count : ℕ) (starts columns : List ℕ) (values : List ℤ) (i : ℕ) → i < length (rows_kept size count starts columns values)
    → length (row_of (rows_kept size count starts columns values) i) ≡ size
width-rows_kept size count starts columns values i h =
    ap length (row_of-rows_kept size count starts columns values i (omega (arith, length-rows_kept size count starts columns values))) ∙ length-dense_row size columns values (slice_index starts i) (slice_index starts (i + 1))

-- how many rows the stored ones stand for
pub count_is : (size count : ℕ) (starts columns : List ℕ) (values : List ℤ) (capacities : List ℕ) (done : Finished)
    → record { size = size; rows = rows_kept size count starts columns values; capacities = capacities } ≡ done → count ≡ length done.rows
count_is size count starts columns values capacities done is = sym (length-rows_kept size count starts columns values) ∙ ap (λ (v : Finished). length v.rows) is

-- fewer rows
pub take-rows_kept : (size count n : ℕ) (starts columns : List ℕ) (values : List ℤ) → n ≤ count
    → take n (rows_kept size count starts columns values) ≡ rows_kept size n starts columns values
take-rows_kept size count n starts columns values h = take-map-range_with_len _ 0 count n h

-- the first rows are kept as finished too
pub stored_first : (size count n : ℕ) (starts pivots columns : List ℕ) (values : List ℤ) (words : RowWords) → AreStored size count starts pivots columns values words → n ≤ count
    → AreStored size n starts pivots columns values words
stored_first size count n starts pivots columns values words was h = record {
  few = was.few;
  within = omega (arith, was.within);
  room_starts = was.room_starts;
  room_pivots = was.room_pivots;
  room_columns = was.room_columns;
  room_values = was.room_values;
  room_words = was.room_words;
  used = λ i low. was.used i (omega arith);
  rising = λ g i low high. was.rising g i low (omega arith);
  each = λ i low. was.each i (omega arith);
  words_are = λ i low. was.words_are i (omega arith);
}

-- the pivot and the later entries of a kept row are in range
pub entry_small : {size k : ℕ} {columns : List ℕ} {values : List ℤ} {first pivot last : ℕ} (e : ℕ) → IsStoredRow size k columns values first pivot last → pivot ≤ e → e < last
    → unsigned_abs (item values e) ≤ LARGEST_ENTRY
entry_small {k = k} {columns = columns} {pivot = pivot} e row low inside = elim (cases_eq e pivot) [
  | inl here ↦ rw (here, row.pivot_is) (row.finished.entries k (omega arith))
  | inr later ↦ rw (row.later.value_is e (omega arith) inside) (row.finished.entries (slice_index columns e) (omega (arith, row.later.low e (omega arith) inside)))
]

-- ---- one more row

-- a row stays what it is while its entries do
stored_same : (size i : ℕ) (columns new_columns : List ℕ) (values new_values : List ℤ) (first pivot last : ℕ) → IsStoredRow size i columns values first pivot last
    → length new_columns ≡ length columns → length new_values ≡ length values → ((e : ℕ) → e < last → slice_index new_columns e ≡ slice_index columns e)
    → ((e : ℕ) → e < last → item new_values e ≡ item values e) → IsStoredRow size i new_columns new_values first pivot last
stored_same size i columns new_columns values new_values first pivot last was long long_values same_column same_value =
    let row_is = dense_row_same size columns new_columns values new_values first last (omega (arith, was.ratios.order, was.pivot_within)) same_column same_value in
    record {
      finished = rw row_is was.finished;
      in_columns = omega (arith, was.in_columns);
      in_values = omega (arith, was.in_values);
      ratios = rw row_is (entries_same _ 0 i columns new_columns values new_values first pivot was.ratios (λ e h. same_column e (omega (arith, was.pivot_within))) (λ e h. same_value e (omega (arith, was.pivot_within))));
      pivot_within = was.pivot_within;
      pivot_is = rw row_is (same_value pivot was.pivot_within ∙ was.pivot_is);
      later = rw row_is (entries_same _ (i + 1) size columns new_columns values new_values (pivot + 1) last was.later same_column same_value);
    }

-- the places of the words of earlier rows come before those of later ones
pub words_before : (h i : ℕ) → h < i → h * h / 2 + h ≤ i * i / 2
words_before h i less = let most : (h + 1) * (h + 1) ≤ i * i = mul-le-mul (omega arith) (omega arith) in omega (arith, most)

-- a row's words stay while its ratios and their words do
words_same : (i : ℕ) (words new_words : RowWords) {values new_values : List ℤ} {first pivot : ℕ} → AreWordsOf i values first pivot words → pivot ≤ first + i
    → ((e : ℕ) → e < pivot → item new_values e ≡ item values e) → slice_index_or new_words.has_words.items i false ≡ slice_index_or words.has_words.items i false
    → ((w : ℕ) → w < i * i / 2 + i → item new_words.ratio_words.items w ≡ item words.ratio_words.items w) → AreWordsOf i new_values first pivot new_words
words_same i words new_words {first = first} was few same_value same_flag same_word = λ is.
    let had = was (sym same_flag ∙ is) in
    record {
      small = λ e low high. rw (same_value e high) (had.small e low high);
      word_is = λ e low high. rw (same_value e high, same_word (i * i / 2 + (e - first)) (omega arith)) (had.word_is e low high);
    }

-- the ratios of a row, its pivot and its later entries have been put after those of `count` rows
pub record Adds (size count : ℕ) (starts columns mid_columns new_columns : List ℕ) (values mid_values new_values : List ℤ) (pivot end : ℕ) (work : List ℤ) : Type 0 where
  pub finished : IsFinishedRow size count work
  pub inside : count < size
  pub long_columns : length new_columns ≡ length columns
  pub long_values : length new_values ≡ length values
  pub mid_columns_long : length mid_columns ≡ length columns
  pub mid_values_long : length mid_values ≡ length values
  pub ratios : Packs work 0 count columns mid_columns values mid_values (slice_index starts count) pivot
  pub later : Packs work (count + 1) size (slice_set mid_columns pivot count) new_columns (slice_set mid_values pivot (item work count)) new_values (pivot + 1) end

-- the new row is kept
row_put : (size count : ℕ) (starts columns mid_columns new_columns : List ℕ) (values mid_values new_values : List ℤ) (pivot end : ℕ) (work : List ℤ)
    → Adds size count starts columns mid_columns new_columns values mid_values new_values pivot end work → end ≤ length new_columns → end ≤ length new_values
    → IsStoredRow size count new_columns new_values (slice_index starts count) pivot end × (dense_row size new_columns new_values (slice_index starts count) end ≡ work)
row_put size count starts columns mid_columns new_columns values mid_values new_values pivot end work adds in_columns in_values =
    let start = slice_index starts count in
    let ratios = adds.ratios.entries in
    let later = adds.later.entries in
    let in_mid_columns : pivot < length mid_columns = omega (arith, later.order, adds.long_columns, adds.mid_columns_long) in
    let in_mid_values : pivot < length mid_values = omega (arith, later.order, adds.long_values, adds.mid_values_long) in
    let same_column : (e : ℕ) → e < pivot → slice_index new_columns e ≡ slice_index mid_columns e = λ e h. let other : e ≢ pivot = omega arith in adds.later.same_columns e (omega arith) ∙ rw get_or-set_other refl in
    let same_value : (e : ℕ) → e < pivot → item new_values e ≡ item mid_values e = λ e h. let other : e ≢ pivot = omega arith in adds.later.same_values e (omega arith) ∙ rw get_or-set_other refl in
    let upto_pivot = entries_same work 0 (count + 1) _ new_columns _ new_values start (pivot + 1) (entries_more work 0 count mid_columns mid_values start pivot (item work count) ratios (omega arith) in_mid_columns in_mid_values refl)
    adds.later.same_columns adds.later.same_values in
    let row_is = dense_row_is work size new_columns new_values start end (entries_joined work 0 (count + 1) size new_columns new_values start (pivot + 1) end upto_pivot later) adds.finished.length_is in (
      record {
        finished = rw row_is adds.finished;
        in_columns = in_columns;
        in_values = in_values;
        ratios = rw row_is (entries_same work 0 count mid_columns new_columns mid_values new_values start pivot ratios same_column same_value);
        pivot_within = omega (arith, later.order);
        pivot_is = rw row_is (adds.later.same_values pivot (omega arith) ∙ get_or-set_same mid_values pivot (item work count) (pos 0) in_mid_values);
        later = rw row_is later;
      },
      row_is,
    )

-- and the rows before it are as they were
pub stored_more : (size count : ℕ) (starts pivots columns mid_columns new_columns : List ℕ) (values mid_values new_values : List ℤ) (words new_words : RowWords) (pivot end : ℕ) (work : List ℤ)
    → AreStored size count starts pivots columns values words → KeepsWords size count new_values (slice_index starts count) pivot words new_words → Adds size count starts columns mid_columns new_columns values mid_values new_values pivot end work
    → AreStored size (count + 1) (slice_set starts (count + 1) end) (slice_set pivots count pivot) new_columns new_values new_words
    × (rows_kept size (count + 1) (slice_set starts (count + 1) end) new_columns new_values ≡ rows_kept size count starts columns values ++ work ∷ [])
stored_more size count starts pivots columns mid_columns new_columns values mid_values new_values words new_words pivot end work was keeps adds =
    let start = slice_index starts count in
    let new_starts = slice_set starts (count + 1) end in
    let used : start ≤ count * size = was.used count (omega arith) in
    let before_pivot = adds.ratios.entries.order in
    let end_fits : end ≤ start + size = omega (arith, adds.ratios.entries.few, adds.later.entries.few) in
    let onwards : start ≤ end = omega (arith, before_pivot, adds.later.entries.order) in
    let row_room : count * size + size ≤ size * size = row_fits count size size size adds.inside (omega arith) in
    let in_starts : count + 1 < length starts = omega (arith, adds.inside, was.room_starts) in
    let in_pivots : count < length pivots = omega (arith, adds.inside, was.room_pivots) in
    let put = row_put size count starts columns mid_columns new_columns values mid_values new_values pivot end work adds (omega (arith, was.room_columns, adds.long_columns)) (omega (arith, was.room_values, adds.long_values)) in
    let start_is : (i : ℕ) → i ≤ count → slice_index new_starts i ≡ slice_index starts i = λ i low. let other : i ≢ count + 1 = omega arith in rw get_or-set_other refl in
    let end_is : slice_index new_starts (count + 1) ≡ end = get_or-set_same starts (count + 1) end 0 in_starts in
    let same_column : (e : ℕ) → e < start → slice_index new_columns e ≡ slice_index columns e = λ e h.
    let other : e ≢ pivot = omega arith in
    adds.later.same_columns e (omega arith) ∙ rw get_or-set_other (adds.ratios.same_columns e h) in
    let same_value : (e : ℕ) → e < start → item new_values e ≡ item values e = λ e h.
    let other : e ≢ pivot = omega arith in
    adds.later.same_values e (omega arith) ∙ rw get_or-set_other (adds.ratios.same_values e h) in
    let earlier : (i : ℕ) → i < count → slice_index starts (i + 1) ≤ start = λ i h. was.rising (i + 1) count (omega arith) (omega arith) in
    let kept : rows_kept size count new_starts new_columns new_values ≡ rows_kept size count starts columns values =
    fill_by_all (λ i. dense_row size columns values (slice_index starts i) (slice_index starts (i + 1))) (rows_kept size count new_starts new_columns new_values) count [] (length-rows_kept size count new_starts new_columns new_values) (λ i h.
    row_of-rows_kept size count new_starts new_columns new_values i h
    ∙ rw (start_is i (omega arith), start_is (i + 1) (omega arith)) (dense_row_same size columns new_columns values new_values (slice_index starts i) (slice_index starts (i + 1)) (was.rising i (i + 1) (omega arith) (omega arith))
    (λ e low. same_column e (omega (arith, earlier i h))) (λ e low. same_value e (omega (arith, earlier i h))))) in (
      record {
        few = was.few;
        within = omega (arith, adds.inside);
        room_starts = length-set starts (count + 1) end ∙ was.room_starts;
        room_pivots = length-set pivots count pivot ∙ was.room_pivots;
        room_columns = adds.long_columns ∙ was.room_columns;
        room_values = adds.long_values ∙ was.room_values;
        room_words = keeps.room;
        used = λ i low. elim (cases_eq i (count + 1)) [
          | inl here ↦ rw (here, end_is) (omega arith)
          | inr other ↦ rw (start_is i (omega arith)) (was.used i (omega arith))
        ];
        rising = λ h i low high. elim (cases_eq i (count + 1)) [
          | inl last ↦ elim (cases_eq h (count + 1)) [
            | inl same ↦ rw (last, same) (omega arith)
            | inr before ↦ rw (last, end_is, start_is h (omega arith)) (omega (arith, was.rising h count (omega arith) (omega arith)))
          ]
          | inr other ↦ rw (start_is h (omega arith), start_is i (omega arith)) (was.rising h i low (omega arith))
        ];
        each = λ i low. elim (cases_eq i count) [
          | inl here ↦ rw (here, start_is count (omega arith), end_is, get_or-set_same pivots count pivot 0 in_pivots) put.0
          | inr other ↦ rw (start_is i (omega arith), start_is (i + 1) (omega arith), get_or-set_other pivots count i pivot 0 other)
              (stored_same size i columns new_columns values new_values _ _ _ (was.each i (omega arith)) adds.long_columns adds.long_values
              (λ e h. same_column e (omega (arith, earlier i (omega arith)))) (λ e h. same_value e (omega (arith, earlier i (omega arith)))))
        ];
        words_are = λ i low. elim (cases_eq i count) [
          | inl here ↦ rw (here, start_is count (omega arith), get_or-set_same pivots count pivot 0 in_pivots) keeps.words
          | inr other ↦ rw (start_is i (omega arith), get_or-set_other pivots count i pivot 0 other)
              (let row = was.each i (omega arith) in
              words_same i words new_words (was.words_are i (omega arith)) (omega (arith, row.ratios.few)) (λ e h. same_value e (omega (arith, h, row.pivot_within, earlier i (omega arith)))) (keeps.others i other)
              (λ w h. keeps.earlier w (omega (arith, h, words_before i count (omega arith)))))
        ];
      },
      map-range_with_len_more (λ i. dense_row size new_columns new_values (slice_index new_starts i) (slice_index new_starts (i + 1))) 0 count count (omega arith)
          ∙ rw (kept, start_is count (omega arith), end_is, put.1) refl,
    )
