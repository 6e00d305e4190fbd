-- Rows of the same number of numbers that stand one after another.
use Rattle.std.proofs.Common.{◌≡◌, ℕ, ◌+◌, ◌*◌, ◌-◌, ◌<◌, ◌≤◌, ℤ, List, [], ◌∷◌, ◌++◌, length, take, drop, length-append, length-drop, slice_range, refl, ap, sym, ◌∙◌, arith}
use Rattle.std.proofs.lemmas.List.{length-take-le}
use Rattle.std.proofs.lemmas.List.FromFn.{length-map-range_with_len, get_or-map-range_with_len, map-range_with_len_more, take-map-range_with_len, fill_by_all}
use Rattle.std.proofs.lemmas.Nat.{row_fits}
use Rattle.std.proofs.lemmas.Slice.{between_is, between-put_mid, take-put_mid_below}
use borrow.Rule.Slice.PartMut.{put_mid}
use Rattle.emtp_elim.specs.Matrix.{row_of}
use Rattle.emtp_tail.specs.held.Given.{rows_in}

pub length-rows_in : (size count : ℕ) (values : List ℤ) → length (rows_in size count values) ≡ count
length-rows_in size count values = length-map-range_with_len _ 0 count

pub row_of-rows_in : (size count : ℕ) (values : List ℤ) (i : ℕ) → i < count
    → row_of (rows_in size count values) i ≡ slice_range values (i * size) (i * size + size)
row_of-rows_in size count values i h = get_or-map-range_with_len _ 0 count i i [] h (omega arith)

-- rows that stand in the same places are the same
pub rows_in-same : (size count : ℕ) (xs ys : List ℤ)
    → ((i : ℕ) → i < count → slice_range xs (i * size) (i * size + size) ≡ slice_range ys (i * size) (i * size + size)) → rows_in size count xs ≡ rows_in size count ys
rows_in-same size count xs ys same =
    fill_by_all (λ i. slice_range ys (i * size) (i * size + size)) (rows_in size count xs) count [] (length-rows_in size count xs)
    (λ i h. row_of-rows_in size count xs i h ∙ same i h)

-- one row more
pub rows_in-more : (size count : ℕ) (values : List ℤ) → rows_in size (count + 1) values ≡ rows_in size count values ++ slice_range values (count * size) (count * size + size) ∷ []
rows_in-more size count values = map-range_with_len_more (λ i. slice_range values (i * size) (i * size + size)) 0 count count (omega arith)

-- fewer rows
pub take-rows_in : (size count n : ℕ) (values : List ℤ) → n ≤ count → take n (rows_in size count values) ≡ rows_in size n values
take-rows_in size count n values h = take-map-range_with_len _ 0 count n h

-- ---- a row written in the place after `count` rows

pub length-put_row : {X : Type 0} (size count : ℕ) (xs ys : List X) → count * size + size ≤ length xs → length ys ≡ size
    → length (put_mid (count * size) (count * size + size - count * size) xs ys) ≡ length xs
length-put_row size count xs ys room same =
    omega (
      arith,
      length-append (take (count * size) xs) (ys ++ drop (count * size + size - count * size) (drop (count * size) xs)),
      length-append ys (drop (count * size + size - count * size) (drop (count * size) xs)),
      length-take-le (count * size) xs (omega arith),
      length-drop (count * size + size - count * size) (drop (count * size) xs),
      length-drop (count * size) xs,
    )

pub row_put : {X : Type 0} (size count : ℕ) (xs ys : List X) → count * size + size ≤ length xs → length ys ≡ size
    → slice_range (put_mid (count * size) (count * size + size - count * size) xs ys) (count * size) (count * size + size) ≡ ys
row_put size count xs ys room same = between-put_mid (count * size) (count * size + size - count * size) xs ys (count * size + size) (omega arith) (omega arith)

pub row_kept : {X : Type 0} (size count i : ℕ) (xs ys : List X) → count * size + size ≤ length xs → i < count
    → slice_range (put_mid (count * size) (count * size + size - count * size) xs ys) (i * size) (i * size + size) ≡ slice_range xs (i * size) (i * size + size)
row_kept size count i xs ys room earlier =
    let before : i * size + size ≤ count * size = row_fits i size count size earlier (omega arith) in
    between_is _ (i * size) (i * size + size)
    ∙ ap (drop (i * size)) (take-put_mid_below (count * size) (count * size + size - count * size) xs ys (i * size + size) before (omega arith))
    ∙ sym (between_is xs (i * size) (i * size + size))

-- ---- one more row

pub put_rows : (size count : ℕ) (values row work : List ℤ) → count * size + size ≤ size * size → length values ≡ size * size → row ≡ work → length work ≡ size
    → rows_in size (count + 1) (put_mid (count * size) (count * size + size - count * size) values row) ≡ rows_in size count values ++ work ∷ []
put_rows size count values row work room same_length row_is work_length =
    let new = put_mid (count * size) (count * size + size - count * size) values row in
    let kept = rows_in-same size count new values (λ i h. row_kept size count i values row (omega arith) h) in
    let put = row_put size count values row (omega arith) (ap length row_is ∙ work_length) in
    rows_in-more size count new ∙ rw (kept, put, row_is) refl
