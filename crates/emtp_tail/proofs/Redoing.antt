-- How far a new matrix agrees with the good rows, and the rows that are redone.
use Rattle.std.proofs.Common.{◌≡◌, ◌≢◌, ℕ, zero, suc, ◌+◌, ◌-◌, ◌*◌, ◌<◌, ◌≤◌, Bool, true, false, not, ℤ, int_eq, List, [], ◌∷◌, ◌++◌, length, take, drop, refl, ap, sym, ◌∙◌, if◌then◌else◌, inl, inr, arith}
use Rattle.std.proofs.lemmas.List.{get_or-take, length-take-le, take_more, take_at, take-take, ext_get_or}
use Rattle.std.specs.Cmp.Lexicographic.{pointwise}
use Rattle.std.proofs.lemmas.Slice.Eq.{slice_eq-Decides}
use Rattle.std.proofs.lemmas.Bool.Decides.{Decides-int_eq}
use Rattle.std.proofs.lemmas.Bool.{cases_Bool, cases_eq, both_ways, not-true, not-false, cond-true, cond-false, false_from_ne_true}
use Rattle.std.proofs.lemmas.Nat.{row_fits}
use borrow.Rule.Slice.PartMut.{put_mid}
use Rattle.emtp_elim.specs.Matrix.{Matrix, row_of}
use Rattle.emtp_elim.specs.held.Finished.{Finished, FinishedRowsStay, AddsRow}
use Rattle.emtp_elim.specs.declared.limit.TheConstants.{MOST_ROWS}
use Rattle.emtp_tail.specs.held.Given.{rows_in}
use Rattle.emtp_tail.proofs.GivenRows.{length-rows_in, rows_in-same, take-rows_in, length-put_row, row_kept, put_rows}
use Rattle.emtp_tail.specs.Good.{first_change}
use Rattle.emtp_tail.specs.held.Good.{IsFirstChange}
use Rattle.emtp_tail.specs.held.Keeping.{IsKept, IsRedone}

-- ---- the first change

take_row : (n : ℕ) (rows : Matrix) (h : ℕ) → h < n → row_of (take n rows) h ≡ row_of rows h
take_row n rows h low = get_or-take n rows h [] low

-- the rows before row i are the same
pub record IsSameUpTo (old new : Matrix) (i : ℕ) : Type 0 where
  pub within : i ≤ length old
  pub same : (h : ℕ) → h < i → row_of old h ≡ row_of new h

pub same_none : (old new : Matrix) → IsSameUpTo old new 0
same_none old new = record { within = omega arith; same = λ h low. absurd (omega arith) }

-- the rows before `from` are known to be the same
pub same_from : (old new : Matrix) (from : ℕ) → from ≤ length old → take from new ≡ take from old → IsSameUpTo old new from
same_from old new from within before = record {
  within = within;
  same = λ h low. sym (take_row from old h low) ∙ ap (λ rows. row_of rows h) (sym before) ∙ take_row from new h low;
}

pub same_more : (old new : Matrix) (i : ℕ) → IsSameUpTo old new i → i < length old → row_of new i ≡ row_of old i → IsSameUpTo old new (i + 1)
same_more old new i was inside here = record {
  within = omega arith;
  same = λ h low. elim (cases_eq h i) [
    | inl last ↦ rw last (sym here)
    | inr earlier ↦ was.same h (omega arith)
  ];
}

pub change_here : (old new : Matrix) (i : ℕ) → IsSameUpTo old new i → row_of new i ≢ row_of old i → IsFirstChange old new i
change_here old new i was other = record {
  within = was.within;
  same = was.same;
  differs = λ inside e. other (sym e);
}

pub change_none : (old new : Matrix) (i : ℕ) → IsSameUpTo old new i → length old ≤ i → IsFirstChange old new i
change_none old new i was all = record {
  within = was.within;
  same = was.same;
  differs = λ inside. absurd (omega arith);
}

-- the relation has one answer, which the function gives
pub first_change_is : (old new : Matrix) (i : ℕ) → length old ≤ length new → IsFirstChange old new i → i ≡ first_change old new
unfolding first_change
first_change_is [] new i long change = omega (arith, change.within)
first_change_is (row ∷ old) [] i long change = absurd (omega arith)
first_change_is (row ∷ old) (other ∷ new) zero long change =
    let decides = slice_eq-Decides Decides-int_eq row other (pointwise int_eq row other) refl in
    sym (cond-false (pointwise int_eq row other) _ _ (false_from_ne_true (pointwise int_eq row other) (λ e. change.differs (omega arith) (decides.0 e))))
first_change_is (row ∷ old) (other ∷ new) (suc i) long change =
    let decides = slice_eq-Decides Decides-int_eq row other (pointwise int_eq row other) refl in
    let rest : IsFirstChange old new i = record {
      within = omega (arith, change.within);
      same = λ h low. change.same (suc h) (omega arith);
      differs = λ inside. change.differs (omega arith);
    } in
    ap suc (first_change_is old new i (omega arith) rest) ∙ sym (cond-true (pointwise int_eq row other) _ _ (decides.1 (change.same 0 (omega arith))))

row_before : (row other : List ℤ) (old new : Matrix) (i : ℕ) → row ≡ other → ((h : ℕ) → h < i → row_of old h ≡ row_of new h)
    → (h : ℕ) → h < suc i → row_of (row ∷ old) h ≡ row_of (other ∷ new) h
row_before row other old new i here rest zero low = here
row_before row other old new i here rest (suc h) low = rest h (omega arith)

change_by : (row other : List ℤ) (old new : Matrix) (i : ℕ) (b : Bool) → pointwise int_eq row other ≡ b → IsFirstChange old new i
    → IsFirstChange (row ∷ old) (other ∷ new) (if b then suc i else 0)
change_by row other old new i true e rest =
    let decides = slice_eq-Decides Decides-int_eq row other (pointwise int_eq row other) refl in
    record {
      within = omega (arith, rest.within);
      same = row_before row other old new i (decides.0 e) rest.same;
      differs = λ inside. rest.differs (omega arith);
    }
change_by row other old new i false e rest =
    let decides = slice_eq-Decides Decides-int_eq row other (pointwise int_eq row other) refl in
    record {
      within = omega arith;
      same = λ h low. absurd (omega arith);
      differs = λ inside here. both_ways (pointwise int_eq row other) e (decides.1 here);
    }

-- the function gives the relation's answer
pub first_change_law : (old new : Matrix) → length old ≤ length new → IsFirstChange old new (first_change old new)
unfolding first_change
first_change_law [] new long = record { within = omega arith; same = λ h low. absurd (omega arith); differs = λ inside. absurd (omega arith) }
first_change_law (row ∷ old) [] long = absurd (omega arith)
first_change_law (row ∷ old) (other ∷ new) long =
    change_by row other old new (first_change old new) (pointwise int_eq row other) refl (first_change_law old new (omega arith))

-- the first change is no later than the end
pub first_change_within : (old new : Matrix) → first_change old new ≤ length new
unfolding first_change
first_change_within [] new = omega arith
first_change_within (row ∷ old) [] = omega arith
first_change_within (row ∷ old) (other ∷ new) = elim (cases_Bool (pointwise int_eq row other)) [
  | inl same ↦ rw same (omega (arith, first_change_within old new))
  | inr off ↦ rw off (omega arith)
]

-- rows that don't change
pub first_change_same : (rows : Matrix) → first_change rows rows ≡ length rows
first_change_same rows =
    sym (first_change_is rows rows (length rows) (omega arith) (record { within = omega arith; same = λ h below. refl; differs = λ inside. absurd (omega (arith, inside)) }))

-- no row is good yet
pub first_change_none : (rows : Matrix) → first_change [] rows ≡ 0
unfolding first_change
first_change_none rows = refl

-- what the comparison of two rows says
pub rows_differ : (xs ys : List ℤ) (r : Bool) → r ≡ not (pointwise int_eq xs ys) → r ≡ true → xs ≢ ys
rows_differ xs ys r e differs same =
    let decides = slice_eq-Decides Decides-int_eq xs ys (pointwise int_eq xs ys) refl in
    both_ways (pointwise int_eq xs ys) (not-true (pointwise int_eq xs ys) (sym e ∙ differs)) (decides.1 same)

pub rows_equal : (xs ys : List ℤ) (r : Bool) → r ≡ not (pointwise int_eq xs ys) → r ≡ false → xs ≡ ys
rows_equal xs ys r e same =
    (slice_eq-Decides Decides-int_eq xs ys (pointwise int_eq xs ys) refl).0 (not-false (pointwise int_eq xs ys) (sym e ∙ same))

-- ---- the rows that are redone

-- the first i rows of the new matrix are finished, and each from `first` on has ticked
pub record IsRedoing (rows : Matrix) (first i : ℕ) (given work : List ℤ) (old done : Finished) (before ticks : ℕ) : Type 0 where
  pub from_first : first ≤ i
  pub few : length rows ≤ MOST_ROWS
  pub room : length given ≡ length rows * length rows
  pub room_work : length work ≡ length rows
  pub redone : IsRedone rows i given done
  pub earlier : take first done.rows ≡ take first old.rows
  pub capacities : done.capacities ≡ old.capacities
  pub ticked : ticks + first ≡ before + i

-- the rows before the first change stay finished
pub redoing_start : (rows : Matrix) (first : ℕ) (given work : List ℤ) (old new : Finished) (ticks : ℕ) → FinishedRowsStay → IsKept (length rows) given work old
    → IsFirstChange (rows_in (length rows) (length old.rows) given) rows first → new ≡ record old { rows = take first old.rows }
    → IsRedoing rows first first given work old new ticks ticks
redoing_start rows first given work old new ticks stay kept change new_is =
    let good = length old.rows in
    let given_rows = rows_in (length rows) good given in
    let count : length given_rows ≡ good = length-rows_in (length rows) good given in
    let within : first ≤ good = omega (arith, change.within) in
    let inside : first ≤ length rows = omega (arith, kept.within) in
    let new_count : length new.rows ≡ first = rw new_is (length-take-le first old.rows within) in
    let agree : take first given_rows ≡ take first rows =
    ext_get_or [] (take first given_rows) (take first rows) (length-take-le first given_rows change.within ∙ sym (length-take-le first rows inside))
    (λ h low. let before : h < first = omega (arith, length-take-le first given_rows change.within) in
    take_row first given_rows h before ∙ change.same h before ∙ sym (take_row first rows h before)) in
    record {
      from_first = omega arith;
      few = kept.few;
      room = kept.room;
      room_work = kept.room_work;
      redone = record {
        same_size = rw new_is kept.same_size;
        count = new_count;
        given_first = sym (take-rows_in (length rows) good first given within) ∙ agree;
        finished = stay.other given_rows rows new.rows (rw new_count agree) (rw new_is (stay.fewer given_rows old.rows first within kept.finished));
      };
      earlier = rw new_is (take-take first first old.rows (omega arith));
      capacities = ap (λ (d : Finished). d.capacities) new_is;
      ticked = refl;
    }

-- the next row of the matrix is put in its place among the rows given
pub given_more : (rows : Matrix) (i : ℕ) (given row : List ℤ) → i < length rows → length given ≡ length rows * length rows → length row ≡ length rows
    → rows_in (length rows) i given ≡ take i rows → row ≡ row_of rows i
    → rows_in (length rows) (i + 1) (put_mid (i * length rows) (i * length rows + length rows - i * length rows) given row) ≡ take (i + 1) rows
given_more rows i given row inside room same_row was row_is =
    put_rows (length rows) i given row row (row_fits i (length rows) (length rows) (length rows) inside (omega arith)) room refl same_row
    ∙ rw (was, row_is) (sym (take_more rows i [] inside))

-- and those before it stay
pub given_kept : (rows : Matrix) (i : ℕ) (given row : List ℤ) → i < length rows → length given ≡ length rows * length rows
    → rows_in (length rows) i given ≡ take i rows
    → rows_in (length rows) i (put_mid (i * length rows) (i * length rows + length rows - i * length rows) given row) ≡ take i rows
given_kept rows i given row inside room was =
    let fits : i * length rows + length rows ≤ length rows * length rows = row_fits i (length rows) (length rows) (length rows) inside (omega arith) in
    rows_in-same (length rows) i _ given (λ h low. row_kept (length rows) i h given row (omega arith) low) ∙ was

pub redoing_more : (rows : Matrix) (first i : ℕ) (given work row copied after : List ℤ) (old done new : Finished) (before ticks later : ℕ)
    → IsRedoing rows first i given work old done before ticks → i < length rows → row ≡ row_of rows i → length row ≡ length rows → copied ≡ row
    → AddsRow done new row → new.capacities ≡ done.capacities → length after ≡ length rows → later ≡ ticks + 1
    → IsRedoing rows first (i + 1) (put_mid (i * length rows) (i * length rows + length rows - i * length rows) given copied) after old new before later
redoing_more rows first i given work row copied after old done new before ticks later was inside row_is same_row copied_is adds same same_after tick =
    let fits : i * length rows + length rows ≤ length rows * length rows = row_fits i (length rows) (length rows) (length rows) inside (omega arith) in
    let count = was.redone.count in
    let same_first : take first (take (length done.rows) new.rows) ≡ take first new.rows = take-take first (length done.rows) new.rows (omega (arith, was.from_first)) in
    rw copied_is (record {
      from_first = omega (arith, was.from_first);
      few = was.few;
      room = length-put_row (length rows) i given row (omega (arith, was.room)) same_row ∙ was.room;
      room_work = same_after;
      redone = record {
        same_size = adds.same_size ∙ was.redone.same_size;
        count = omega (arith, adds.one_more);
        given_first = given_more rows i given row inside was.room same_row was.redone.given_first row_is;
        finished = adds.finished rows (record { finished = was.redone.finished; within = omega arith; row_is = ap (row_of rows) count ∙ sym row_is });
      };
      earlier = sym same_first ∙ rw adds.earlier was.earlier;
      capacities = same ∙ was.capacities;
      ticked = omega (arith, was.ticked);
    })

-- what was redone is kept
pub kept_redone : (rows : Matrix) (n : ℕ) (given work : List ℤ) (done : Finished) → FinishedRowsStay → length rows ≤ MOST_ROWS → n ≤ length rows → length given ≡ length rows * length rows
    → length work ≡ length rows → IsRedone rows n given done → IsKept (length rows) given work done
kept_redone rows n given work done stay few inside room room_work redone = record {
  few = few;
  room = room;
  room_work = room_work;
  same_size = redone.same_size;
  within = omega (arith, redone.count);
  finished = rw (redone.count, redone.given_first) (stay.other rows (take n rows) done.rows (rw redone.count (sym (take-take n n rows (omega arith)))) redone.finished);
}

-- a `Vec` that was lent as a slice
pub lent : {X : Type 0} (n : ℕ) (xs ys : List X) → length xs ≡ n → take n (xs ++ drop (length xs) ys) ≡ xs
lent n xs ys same = take_at xs (drop (length xs) ys) n same
